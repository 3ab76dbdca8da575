use Rattle.jiff_tz.specs.declared.timezone.TimeZone.{TimeZone}
use Rattle.jiff_tz.specs.declared.timezone.TimeZone.TheVariants.{UTC, Unknown, Fixed, Posix, Tzif}
use Rattle.cron_clocks.specs.Clocks.{IsPlain, LookupsAgree}
use Rattle.cron_clocks.proofs.RuleAgreement.{plain_agree}
use Rattle.cron_clocks.proofs.laws.plain_rules_agree.Goals as goal

agree : (z : TimeZone) → IsPlain z → LookupsAgree z
agree UTC p = absurd p
agree Unknown p = absurd p
agree (Fixed o) p = absurd p
agree (Posix rule) p = plain_agree rule p
agree (Tzif t) p = absurd p

pub returns : goal.returns
returns c = agree
