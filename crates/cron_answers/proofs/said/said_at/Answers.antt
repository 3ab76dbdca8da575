use Rattle.std.proofs.Common.{◌≡◌, ℕ, ℤ, pos, List, Option, Some, None, sym, ap, ◌∙◌, subst}
use Rattle.std.specs.Prelude.{unsigned_abs}
use Rattle.jiff.specs.Words.{plain_zone}
use Rattle.jiff_tz.specs.declared.timezone.TimeZone.{TimeZone}
use Rattle.cron_answers.specs.Instants.{IsSaid, IsSaidAt, IsShown, Tells}
use Rattle.cron_answers.proofs.said.said_at.Goals as goal

same : (a b : ℕ) → pos a ≡ pos b → a ≡ b
same a b h = ap unsigned_abs h

tells : (text : List ℕ) (z : TimeZone) (now : ℤ) (shown : ℕ) (r : Option ℤ) → IsShown z now shown → Tells (IsSaid text shown) r → Tells (IsSaidAt text z now) r
tells text z now shown None is h = λ c told. h c (subst (λ s. IsSaid text s c) (same told.0 shown (told.1.1 ∙ sym is.1)) told.2)
tells text z now shown (Some c) is h = (shown, is, h)

pub returns-clause-second : goal.returns-clause-second
returns-clause-second c = tells c.args.text.now (plain_zone c.args.zone.now) c.args.now.nanosecond c.in-Some.shown c.said.result c.in-Some.ensures c.said.ensures.second
