-- Structs that say no zone.
use Rattle.std.proofs.Common.{◌≡◌, Option, Some, None, arith}
use Rattle.jiff_tz.specs.declared.posix.Dst.{Dst}
use Rattle.jiff_tz.specs.declared.timezone.TimeZone.TheVariants.{UTC, Unknown, Fixed, Posix, Tzif}
use Rattle.cron_c.specs.Zones.{IsNoZone, IsSavingIn, IsTurnIn}
use Rattle.cron_c.specs.declared.zone.CronZone.{CronZone}

abbrev SaysNone : CronZone → Type 0
SaysNone c = (dst : Dst) → c.saving ≡ dst.offset.seconds → IsTurnIn c.starts dst.rule.start → IsTurnIn c.ends dst.rule.end → ⊥

no_saving : (c : CronZone) (dst : Option Dst) → c.kind ≡ 2 → SaysNone c → IsSavingIn c dst → ⊥
no_saving c None two none one = absurd (omega (arith, two, one))
no_saving c (Some dst) two none says = let (kind, saving, starts, ends) = says in none dst saving starts ends

pub no_zone : (c : CronZone) → c.kind ≡ 2 → SaysNone c → IsNoZone c
no_zone c two none UTC zero = absurd (omega (arith, two, zero))
no_zone c two none Unknown says = says
no_zone c two none (Fixed o) says = says
no_zone c two none (Posix rule) says = no_saving c rule.dst two none says.1
no_zone c two none (Tzif t) says = says
