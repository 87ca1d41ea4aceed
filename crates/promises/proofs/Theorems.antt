-- The theorems on one event, by their plain names: `event_of` satisfies each statement of Statements.antt. In that
-- page's order. Each is proved in the file that its line names; programs that break a statement are in Wrong.antt.
-- Assumes nothing.
use Rattle.lock.specs.Event.{event_of}
use Rattle.promises.proofs.EndsExactly as HowCallsEnd
use Rattle.promises.proofs.FillsExactly as WhatIsFilled
use Rattle.promises.proofs.GoesExactly as WhereItGoes
use Rattle.promises.proofs.Grants
use Rattle.promises.proofs.OneAccess as OneAtATime
use Rattle.promises.proofs.OnlyOne as NoChoice
use Rattle.promises.proofs.ParkToken
use Rattle.promises.specs.ReadsOneAccess as WhatIsRead
use Rattle.promises.proofs.RefusalProofs
use Rattle.promises.proofs.SeenIsTheLastWord as TheLastWord
use Rattle.promises.proofs.WokenOwner
use Rattle.promises.proofs.WritesExactly as WhatIsWritten
use Rattle.promises.specs.Statements.{RefusalTable, RefusedUnchanged, EndsExactly, ReadsOneAccess, WritesExactly}
use Rattle.promises.specs.Statements.{GoesExactly, FillsExactly, SeenIsTheLastWord, ParkTakesTheToken}
use Rattle.promises.specs.Statements.{WokenIsTheOwner, OneAccess, BeginSharesNothing, FailureWritesNothing}
use Rattle.promises.specs.Statements.{ChangesLittle, StaysSized, HoldingFollowsEffect, RefusedHasNoEffect}
use Rattle.promises.specs.Statements.{HoldingChangesAtTheWord, HoldingChangesWithTheWord, AnsweredAtTheGrant}
use Rattle.promises.specs.Statements.{Right, OnlyOne, NoOther}

-- ── demand 1: refusals ──

pub each_refusal_exactly : RefusalTable event_of
each_refusal_exactly = RefusalProofs.refusal_table

pub refusal_changes_nothing : RefusedUnchanged event_of
refusal_changes_nothing = RefusalProofs.refused_unchanged

-- ── demand 2: one event ──

pub ends_exactly : EndsExactly event_of
ends_exactly = HowCallsEnd.ends_exactly

pub reads_one_access : ReadsOneAccess event_of
reads_one_access = WhatIsRead.reads_one_access

pub writes_exactly : WritesExactly event_of
writes_exactly = WhatIsWritten.writes_exactly

pub goes_exactly : GoesExactly event_of
goes_exactly = WhereItGoes.goes_exactly

pub fills_exactly : FillsExactly event_of
fills_exactly = WhatIsFilled.fills_exactly

pub seen_is_the_last_word : SeenIsTheLastWord event_of
seen_is_the_last_word = TheLastWord.seen_is_the_last_word

pub park_takes_the_token : ParkTakesTheToken event_of
park_takes_the_token = ParkToken.park_takes_the_token

pub woken_is_the_owner : WokenIsTheOwner event_of
woken_is_the_owner = WokenOwner.woken_is_the_owner

pub one_access : OneAccess event_of
one_access = OneAtATime.one_access

pub begin_shares_nothing : BeginSharesNothing event_of
begin_shares_nothing = OneAtATime.begin_shares_nothing

pub failure_writes_nothing : FailureWritesNothing event_of
failure_writes_nothing = OneAtATime.failure_writes_nothing

pub changes_little : ChangesLittle event_of
changes_little = OneAtATime.changes_little

pub stays_sized : StaysSized event_of
stays_sized = OneAtATime.stays_sized

-- ── demand 2: grants, releases and downgrades ──

pub holding_follows_effect : HoldingFollowsEffect event_of
holding_follows_effect = Grants.holding_follows_effect

pub refused_has_no_effect : RefusedHasNoEffect
refused_has_no_effect = Grants.refused_has_no_effect

pub holding_changes_at_the_word : HoldingChangesAtTheWord event_of
holding_changes_at_the_word = Grants.holding_changes_at_the_word

pub holding_changes_with_the_word : HoldingChangesWithTheWord event_of
holding_changes_with_the_word = Grants.holding_changes_with_the_word

pub answered_at_the_grant : AnsweredAtTheGrant event_of
answered_at_the_grant = Grants.answered_at_the_grant

-- ── all together ──

pub right : Right event_of
right =
    record {
      table = each_refusal_exactly;
      unchanged = refusal_changes_nothing;
      calls = ends_exactly;
      writes = writes_exactly;
      goes = goes_exactly;
      fills = fills_exactly;
      woken = woken_is_the_owner;
      at_access = one_access;
      begin = begin_shares_nothing;
      little = changes_little;
      sized = stays_sized;
      holding = holding_follows_effect;
      answers = answered_at_the_grant;
    }

pub only_one : OnlyOne
only_one = NoChoice.only_one

pub no_other : NoOther event_of
no_other other is_right = only_one other event_of is_right right
