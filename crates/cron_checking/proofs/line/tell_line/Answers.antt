use Rattle.std.proofs.Common.{◌≡◌, ℕ, Bool, List, subst}
use Rattle.cron_checking.specs.Reports.{TellsText}
use Rattle.cron_checking.specs.declared.line.Telling.{Telling}
use Rattle.cron_checking.proofs.line.tell_line.Goals as goal

-- the text of the bytes was told
same_text : (how : Telling) (number : ℕ) (line bytes text : List ℕ) (refused : Bool) → line ≡ bytes → TellsText how number line text refused
    → TellsText how number bytes text refused
same_text how number line bytes text refused e h = subst (λ (b : List ℕ). TellsText how number b text refused) e h

pub returns-in_default : goal.returns-in_default
returns-in_default c = (c.in_default.ensures.cases.0, rw c.clear.ensures.bytes at c.in_ok-writeln.ensures.bytes)

pub returns : goal.returns
returns c = (
  c.in-Ok.ensures.cases.1,
  same_text c.args.how.now c.args.number c.in-Ok.line.now c.args.line.now _ c.in_ok-tell_text.field-0 c.in-Ok.ensures.cases.0 c.in_ok-tell_text.ensures,
)
