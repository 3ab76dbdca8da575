use Rattle.std.proofs.Common.{◌≡◌, sym, true, false}
use Rattle.std.specs.Ordering.{int_eq}
use Rattle.jiff.specs.Words.{plain_zone}
use Rattle.jiff_tz.specs.Zone.{ambiguous_at}
use Rattle.jiff_tz.specs.declared.ambiguous.AmbiguousOffset.TheVariants.{Unambiguous, Gap, Fold}
use Rattle.cron_moments.specs.Civil.{civil}
use Rattle.cron_moments.proofs.ReadingLemmas.{readings-by, readings-same, readings-apart}
use Rattle.cron_moments.proofs.readings.readings_by_rule.Goals as goal

pub returns-in-Gap : goal.returns-in-Gap
returns-in-Gap c =
    let at : ambiguous_at (plain_zone c.args.zone.now) (civil c.args.second) ≡ Gap c.in-Gap.before c.in-Gap.after = cc (c.in-Gap.ensures) in
    sym (readings-by _ _ _ at)

pub returns-in-Unambiguous : goal.returns-in-Unambiguous
returns-in-Unambiguous c =
    let at : ambiguous_at (plain_zone c.args.zone.now) (civil c.args.second) ≡ Unambiguous c.in-Unambiguous.offset = cc (c.in-Unambiguous.ensures) in
    rw c.single.ensures (sym (readings-by _ _ _ at))

pub returns-then-eq : goal.returns-then-eq
returns-then-eq c =
    let at : ambiguous_at (plain_zone c.args.zone.now) (civil c.args.second) ≡ Fold c.in-Fold.before c.in-Fold.after = cc (c.in-Fold.ensures) in
    let same : int_eq c.in-Fold.before.seconds c.in-Fold.after.seconds ≡ true = cc (c.if-eq.ensures) in
    rw c.single-then-eq.ensures (sym (readings-same _ _ _ _ at same))

pub returns-else-eq : goal.returns-else-eq
returns-else-eq c =
    let at : ambiguous_at (plain_zone c.args.zone.now) (civil c.args.second) ≡ Fold c.in-Fold.before c.in-Fold.after = cc (c.in-Fold.ensures) in
    let apart : int_eq c.in-Fold.before.seconds c.in-Fold.after.seconds ≡ false = cc (c.if-eq.ensures) in
    rw (c.moment_numbered.ensures, c.moment_numbered-in-Fold.ensures) (sym (readings-apart _ _ _ _ at apart))
