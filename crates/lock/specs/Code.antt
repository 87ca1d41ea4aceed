-- The event code byte: 0..6 begin read, write, try_read, try_write, read_unlock, write_unlock, downgrade;
-- 16 steps, 17 fails for no cause; every other value is none.
-- Assumes nothing.
use Rattle.std.specs.Prelude.{ℕ, leb, eqb, Option, Some, None}
use Rattle.word.specs.Base.{pick}
use Rattle.lock.specs.declared.code.Call.{Call}
use Rattle.lock.specs.declared.code.Call.TheVariants.{Read, Write, TryRead, TryWrite}
use Rattle.lock.specs.declared.code.Call.TheVariants.{ReadUnlock, WriteUnlock, Downgrade}
use Rattle.lock.specs.declared.code.Code.{Code}
use Rattle.lock.specs.declared.code.Code.TheVariants.{Begin, Step, Fail}

-- 0 read, 1 write, 2 try_read, 3 try_write, 4 read_unlock, 5 write_unlock, 6 downgrade
abbrev pub call_of : ℕ → Call
call_of code =
    pick (eqb code 0)
    Read
    (pick (eqb code 1)
    Write
    (pick (eqb code 2)
    TryRead
    (pick (eqb code 3) TryWrite (pick (eqb code 4) ReadUnlock (pick (eqb code 5) WriteUnlock Downgrade)))))

abbrev pub code_of : ℕ → Option Code
code_of code =
    pick (leb code 6)
    (Some (Begin (call_of code)))
    (pick (eqb code 16) (Some Step) (pick (eqb code 17) (Some Fail) None))
