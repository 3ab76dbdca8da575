use Rattle.std.proofs.Common.{◌≡◌, ◌-◌, ◌∙◌, take, ap, arith}
use Rattle.std.specs.Char.{is_ascii_digit}
use Rattle.std.specs.List.{list_all}
use Rattle.cron_kubernetes.proofs.DurationLemmas.{all_front, boundary-whole}
use Rattle.cron_kubernetes.proofs.durations.span_of.Goals as goal

pub range-requires-clause-end_boundary : goal.range-requires-clause-end_boundary
range-requires-clause-end_boundary c =
    let is = rw c.as_bytes-2.ensures.value at c.whole_len.ensures in
    boundary-whole c.args.number.now c.whole_len.result c.utf8.number is

pub whole_of-requires : goal.whole_of-requires
whole_of-requires c =
    let is = rw c.as_bytes-2.ensures.value at c.whole_len.ensures in
    let end : c.whole_len.result - 0 ≡ c.whole_len.result = omega arith in
    ap (list_all is_ascii_digit) (c.range.ensures.value ∙ ap (λ k. take k c.args.number.now) (end ∙ is)) ∙ all_front is_ascii_digit c.args.number.now
