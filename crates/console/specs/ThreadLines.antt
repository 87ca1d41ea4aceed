-- The threads' lines laid one after the other, as a trace ends.
-- Assumes nothing.
use Rattle.std.specs.Prelude.{ℕ, suc, ◌+◌, ◌*◌, ◌≤◌, List, [], ◌∷◌, ◌++◌, ◌≡◌, take}
use Rattle.std.proofs.Common.{append-nil, sym, ap, ◌∙◌, arith}
use Rattle.word.specs.Number.{thread}
use Rattle.state.specs.declared.machine.Machine.{Machine}
use Rattle.print.specs.Text.{ascii}
use Rattle.print.specs.Line.{line_width}
use Rattle.print.specs.Whole.{bytes_of}
use Rattle.print.specs.WholeLaws.{bytes_append}
use Rattle.traced.specs.Thread.{thread_text}
use Rattle.traced.specs.Whole.{thread_lines}

-- those of the first k threads are laid
pub record LaysThreads (m : Machine) (page : List ℕ) (at k : ℕ) : Type 0 where
  pub within : at ≤ line_width * k
  pub bytes : take at page ≡ bytes_of (thread_lines k m)

pub threads_more :
    (k : ℕ) (m : Machine)
    → bytes_of (thread_lines k m) ++ (thread_text m (thread k) ++ ascii "\n") ≡ bytes_of (thread_lines (k + 1) m)
unfolding thread_lines bytes_of
threads_more k m =
    let text = thread_text m (thread k) in
    let e : suc k ≡ k + 1 = omega arith in
    ap (λ (l : List ℕ). bytes_of (thread_lines k m) ++ l) (sym (append-nil (text ++ ascii "\n")))
    ∙ sym (bytes_append (thread_lines k m) (text ∷ []))
    ∙ ap (λ (i : ℕ). bytes_of (thread_lines i m)) e
