use Rattle.std.proofs.Common.{◌≡◌, ℕ, Bool, List, Option, Some, sym, ◌∙◌, subst}
use Rattle.std.specs.String.{string_bytes}
use Rattle.cron_checking.specs.Inner.{TellsBytes}
use Rattle.cron_checking.specs.Puts.{Puts}
use Rattle.cron_checking.specs.declared.line.Telling.{Telling}
use Rattle.cron_checking.proofs.check.tell_next.Goals as goal

some_told : (how : Telling) (number : ℕ) (line text : List ℕ) (told : Option Bool) (refused : Bool) → told ≡ Some refused
    → TellsBytes how number line text told → TellsBytes how number line text (Some refused)
some_told how number line text told refused e h = subst (λ (o : Option Bool). TellsBytes how number line text o) e h

pub returns : goal.returns
returns g c = (
  string_bytes c.tell_line.new.text,
  (
    sym c.has_failed.ensures ∙ c.if-has_failed.false,
    some_told c.args.how.now c.args.number c.args.line.now (string_bytes c.tell_line.new.text) _ c.in-Some.refused c.in-Some.is c.in-Ok.ensures,
  ),
  subst (Puts _ _ _ _ _ _) c.as_bytes.ensures.value c.put.ensures,
)
