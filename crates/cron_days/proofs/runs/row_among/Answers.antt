use Rattle.std.proofs.Common.{◌<◌, ◌-◌, length, nat_le, slice_index_or, refl, rules, arith}
use Rattle.std.proofs.lemmas.List.Sorted.{IsPartitionPoint-from_clause, IsPartitionedBy-leb}
use Rattle.cron_days.specs.declared.runs.Run.{Run}
use Rattle.cron_days.proofs.RunLemmas.{end_high, ends_rise, first_low, row_in_run, row_outside}
use Rattle.cron_days.proofs.runs.row_among.Goals as goal

pub returns-then-place-runs : goal.returns-then-place-runs
returns-then-place-runs c =
    let runs = c.args.runs.now in
    let day = c.args.day in
    let place = c.partition_point-place.result in
    let d : Run = record { first = 0; end = 0 } in
    let point = IsPartitionPoint-from_clause (λ (run : Run). nat_le run.end day) runs place c.partition_point-place.ensures.partitioned
    (IsPartitionedBy-leb (λ (run : Run). run.end) runs day (ends_rise runs c.requires.apart)) (λ a r q k. search rules) in
    row_outside runs c.requires.apart place day c.end_before-first.result 47_846 d (omega arith) c.end_before-first.ensures.end
    (first_low runs c.requires.apart place day c.end_before-first.result d point c.end_before-first.ensures.end c.end_before-first.ensures.none)
    (omega arith) (omega arith) (λ h. absurd (omega arith))

pub returns-then-run-day : goal.returns-then-run-day
returns-then-run-day c =
    let runs = c.args.runs.now in
    let day = c.args.day in
    let place = c.partition_point-place.result in
    let d : Run = record { first = 0; end = 0 } in
    let point = IsPartitionPoint-from_clause (λ (run : Run). nat_le run.end day) runs place c.partition_point-place.ensures.partitioned
    (IsPartitionedBy-leb (λ (run : Run). run.end) runs day (ends_rise runs c.requires.apart)) (λ a r q k. search rules) in
    let less : place < length runs = omega (arith, c.if-place-runs.false) in
    row_in_run runs c.requires.apart place day (slice_index_or runs place d) d less refl c.if-run-day.true (end_high runs c.requires.apart place day d point less)

pub returns : goal.returns
returns c =
    let runs = c.args.runs.now in
    let day = c.args.day in
    let place = c.partition_point-place.result in
    let d : Run = record { first = 0; end = 0 } in
    let point = IsPartitionPoint-from_clause (λ (run : Run). nat_le run.end day) runs place c.partition_point-place.ensures.partitioned
    (IsPartitionedBy-leb (λ (run : Run). run.end) runs day (ends_rise runs c.requires.apart)) (λ a r q k. search rules) in
    let less : place < length runs = omega (arith, c.if-place-runs.false) in
    row_outside runs c.requires.apart place day c.end_before-first.result ((slice_index_or runs place d).first - 1) d (omega arith) c.end_before-first.ensures.end
    (first_low runs c.requires.apart place day c.end_before-first.result d point c.end_before-first.ensures.end c.end_before-first.ensures.none)
    (omega (arith, c.if-run-day.false)) (omega (arith, c.if-run-day.false, c.requires.apart.in_range place d less, c.requires.apart.some place d less)) (λ h. omega (arith, c.if-run-day.false))
