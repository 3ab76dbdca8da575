use Rattle.std.proofs.Common.{◌≡◌, ◌∙◌, ◌+ℤ◌, ◌≤ℤ◌, ◌-◌, ◌<◌, ap, arith, length, pos, subst}
use Rattle.jiff_core.proofs.SignedLemmas.{signed_casts}
use Rattle.jiff_core.specs.declared.Offset.{Offset}
use Rattle.jiff_tz.specs.Tzif.{transition_at}
use Rattle.jiff_tz.specs.TzifText.{TransitionText, transition_text}
use Rattle.jiff_tz.specs.declared.timezone.TimeZone.TheVariants.{Tzif}
use Rattle.cron_clocks.proofs.TableLemmas.{transition_of, transitions_length}
use Rattle.cron_instants.specs.Inner.Periods.{IsPeriod}
use Rattle.cron_instants.proofs.TransitionLemmas.{size}
use Rattle.cron_instants.proofs.TableOffsetRange.{sizes}
use Rattle.cron_instants.proofs.TablePeriods.{is_period, is_read_from}
use Rattle.cron_instants.proofs.periods.period_past.Goals as goal

module _ (c : goal.After-struct_told-4-1) where
  among : c.args.count < size c.args.table.now
  among = let same = sizes c.args.table.now c.transitions-transitions.result.now c.transitions-transitions.ensures in omega (arith, same, c.if-count-transitions.false)

  next : transition_text c.index-transitions-count.result ≡ transition_text (transition_at c.args.table.now c.args.count)
  next =
      transition_of c.args.table.now c.transitions-transitions.result.now c.args.count c.index-transitions-count.result c.transitions-transitions.ensures
      c.index-transitions-count.is (omega (arith, among, transitions_length c.args.table.now))

  last : c.index-transitions-transitions.result.second ≡ (transition_at c.args.table.now (size c.args.table.now - 1)).second
  last =
      let same = sizes c.args.table.now c.transitions-transitions.result.now c.transitions-transitions.ensures in
      let place : length c.transitions-transitions.result.now - 1 ≡ size c.args.table.now - 1 = ap (λ n. n - 1) same in
      let at = transition_of c.args.table.now c.transitions-transitions.result.now (length c.transitions-transitions.result.now - 1) c.index-transitions-transitions.result
      c.transitions-transitions.ensures c.index-transitions-transitions.is (omega (arith, among, same, transitions_length c.args.table.now)) in
      ap (λ (r : TransitionText). r.second) (at ∙ ap (λ n. transition_text (transition_at c.args.table.now n)) place)

  far : ((transition_at c.args.table.now c.args.count).second +ℤ pos 187_200) ≤ℤ (transition_at c.args.table.now (size c.args.table.now - 1)).second
  far =
      let second = ap (λ (r : TransitionText). r.second) next in
      omega (arith, signed_casts, second, last, c.if-next-last.false, c.index-transitions-count.result.second_in, c.index-transitions-transitions.result.second_in)

  own : c.from_plain.result.seconds ≡ (transition_at c.args.table.now c.args.count).before.seconds
  own = ap (λ (o : Offset). o.seconds) c.from_plain.ensures ∙ ap (λ (r : TransitionText). r.before) next

pub returns-clause-end : goal.returns-clause-end
returns-clause-end c =
    let second = ap (λ (r : TransitionText). r.second) (next c) in
    omega (arith, signed_casts, second, c.if-next-lt0.false, c.if-next-ge-SECONDS.false)

pub returns-clause-period : goal.returns-clause-period
returns-clause-period c a passed =
    subst (λ e. IsPeriod (Tzif c.args.table) a e c.from_plain.result) (returns-clause-end c)
    (is_period c.args.table c.args.count (among c) (far c) c.from_plain.result (own c) a passed)

pub returns-clause-first : goal.returns-clause-first
returns-clause-first c a last = is_read_from c.args.table c.args.count (among c) (far c) c.from_plain.result (own c) a last
