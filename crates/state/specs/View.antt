-- What a step does with what it may look at: a change of the word, of one node, of the thread's own record, and a wake.
-- Assumes nothing.
use Rattle.std.specs.Prelude.{Bool, false, eqb, Result, Ok, Option, None}
use Rattle.word.specs.Base.{pick}
use Rattle.word.specs.Flags.{to_node}
use Rattle.word.specs.declared.flags.Word.{Word}
use Rattle.word.specs.declared.number.ThreadNumber.{ThreadNumber}
use Rattle.state.specs.declared.node.Node.{Node}
use Rattle.state.specs.declared.holding.Holding.{Holding}
use Rattle.state.specs.declared.answer.Answer.{Answer}
use Rattle.state.specs.declared.answer.Answer.TheVariants.{Went, Done, Yes}
use Rattle.state.specs.declared.answer.Refusal.{Refusal}
use Rattle.state.specs.declared.place.Who.{Who}
use Rattle.state.specs.declared.place.Who.TheVariants.{Waiter, Leaver}
use Rattle.state.specs.declared.place.Walk.{Walk}
use Rattle.state.specs.declared.place.Place.{Place}
use Rattle.state.specs.declared.place.Place.TheVariants.{Idle, CompletedLoad, WalkTail}
use Rattle.state.specs.declared.view.View.{View}
use Rattle.state.specs.declared.view.Next.{Next}
use Rattle.state.specs.declared.view.Change.{Change}

-- a change, or the refusal
abbrev pub Stepped : Type 0
Stepped = Result Change Refusal

-- the call goes on at a place
abbrev pub at : Place → Next
at p = record { place = p; answer = Went }

-- the call ends
abbrev pub end : Answer → Next
end a = record { place = Idle; answer = a }

-- a first attempt is granted: read and write end with done, a try with yes
abbrev pub granted : Bool → Next
granted blocking = pick blocking (end Done) (end Yes)

-- unlock queue or complete all is over: a waiter loads completed, any other call is done
abbrev pub after_queue : Who → Next
after_queue (Waiter writer) = at (CompletedLoad writer)
after_queue Leaver = end Done

-- find tail, from the node of a word
abbrev pub walk_from : Walk → Word → Next
walk_from walk seen = at (WalkTail walk seen (to_node seen))

-- a weak compare succeeds unless it is made to fail or the word is another
abbrev pub agrees_of : View → Word → Bool
agrees_of v seen = pick v.fails false (eqb v.word.0 seen.0)

abbrev pub changed_of : Word → Node → Bool → Holding → Option ThreadNumber → Next → Stepped
changed_of w n token h woken next =
    Ok
    (record {
      word = w;
      node = n;
      thread = record { place = next.place; token = token; holding = h };
      answer = next.answer;
      woken = woken;
    })

-- nothing shared changes
abbrev pub stays : View → Next → Stepped
stays v next = changed_of v.word v.node v.token v.holding None next

-- the word is written
abbrev pub writes : View → Word → Holding → Next → Stepped
writes v w h next = changed_of w v.node v.token h None next

-- the node is stored to, or the own one filled
abbrev pub links : View → Node → Next → Stepped
links v n next = changed_of v.word n v.token v.holding None next

-- a contended reader takes itself off the count
abbrev pub subtracts : View → Node → Holding → Next → Stepped
subtracts v n h next = changed_of v.word n v.token h None next

-- the node is completed, and its owner woken
abbrev pub completes : View → Node → Option ThreadNumber → Next → Stepped
completes v n woken next = changed_of v.word n v.token v.holding woken next

-- park returns
abbrev pub parks : View → Bool → Next → Stepped
parks v token next = changed_of v.word v.node token v.holding None next
