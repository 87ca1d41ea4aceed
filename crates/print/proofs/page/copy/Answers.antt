-- `print::page::copy` meets its contract: what std's copy leaves is the page that `copy_of` gives. Assumes nothing.
use Rattle.std.proofs.Common.{◌+◌, ◌-◌, ◌++◌, ◌≡◌, ◌≤◌, ap, ◌∙◌, arith, length, take, drop, rules}
use Rattle.std.proofs.lemmas.List.{length-take-le, take-take}
use Rattle.std.proofs.lemmas.Slice.{put_mid-paste}
use Rattle.print.specs.PageLaws.{copy_pastes}
use Rattle.print.proofs.page.copy.Goals as goal

pub returns : goal.returns
returns c =
    let a = c.args in
    let n = a.line.length in
    let b = a.line.bytes in
    let room : n ≤ length b = search rules in
    let front : c.copy_from_slice.new.self ≡ take n b = search rules in
    let long : n ≡ length (take n b) = omega (arith, length-take-le n b room) in
    put_mid-paste a.at (a.at + n - a.at) a.page.now _ (take n b) n front (omega arith) long
    ∙ ap (λ t. take a.at a.page.now ++ t ++ drop (a.at + n) a.page.now) (take-take n n b (omega arith))
    ∙ copy_pastes a.page.now a.at b n (omega arith) room
