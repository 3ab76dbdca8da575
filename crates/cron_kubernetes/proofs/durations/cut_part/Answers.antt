use Rattle.std.proofs.Common.{◌≡◌, ◌-◌, ◌∙◌, drop, take, ap, arith}
use Rattle.cron_kubernetes.proofs.DurationLemmas.{boundary-number, boundary-unit, cut_parts, shorter}
use Rattle.cron_kubernetes.proofs.durations.cut_part.Goals as goal

pub range_from-behind-requires : goal.range_from-behind-requires
range_from-behind-requires c =
    let is = rw c.as_bytes.ensures.value at c.number_len.ensures in
    λ some. boundary-number c.args.text.now c.number_len.result c.utf8.text is

pub range-number-requires-clause-end_boundary : goal.range-number-requires-clause-end_boundary
range-number-requires-clause-end_boundary c =
    let is = rw c.as_bytes-2.ensures.value at c.number_len-2.ensures in
    boundary-number c.args.text.now c.number_len-2.result c.utf8.text is

pub range-requires-clause-end_boundary : goal.range-requires-clause-end_boundary
range-requires-clause-end_boundary c =
    let is = rw c.as_bytes-3.ensures.value at c.unit_len-end.ensures in
    boundary-unit c.range_from-behind.result.now c.unit_len-end.result is

pub range_from-requires : goal.range_from-requires
range_from-requires c =
    let is = rw c.as_bytes-3.ensures.value at c.unit_len-end.ensures in
    λ some. boundary-unit c.range_from-behind.result.now c.unit_len-end.result is

pub returns-clause-parts : goal.returns-clause-parts
returns-clause-parts c =
    let text = c.args.text.now in
    let behind = c.range_from-behind.result.now in
    let first = rw c.as_bytes.ensures.value at c.number_len.ensures in
    let again = rw c.as_bytes-2.ensures.value at c.number_len-2.ensures in
    let unit = rw c.as_bytes-3.ensures.value at c.unit_len-end.ensures in
    let from : c.number_len-2.result - 0 ≡ c.number_len-2.result = omega arith in
    let end : c.unit_len-end.result - 0 ≡ c.unit_len-end.result = omega arith in
    cut_parts text behind c.range-number.result.now c.range.result.now c.range_from.result.now c.requires
    (c.range_from-behind.ensures.value ∙ ap (λ k. drop k text) first)
    (c.range-number.ensures.value ∙ ap (λ k. take k text) (from ∙ again))
    (c.range.ensures.value ∙ ap (λ k. take k behind) (end ∙ unit))
    (c.range_from.ensures.value ∙ ap (λ k. drop k behind) unit)

pub returns-clause-shorter : goal.returns-clause-shorter
returns-clause-shorter c =
    let text = c.args.text.now in
    let behind = c.range_from-behind.result.now in
    let first = rw c.as_bytes.ensures.value at c.number_len.ensures in
    let unit = rw c.as_bytes-3.ensures.value at c.unit_len-end.ensures in
    shorter text behind c.range_from.result.now c.requires (c.range_from-behind.ensures.value ∙ ap (λ k. drop k text) first)
    (c.range_from.ensures.value ∙ ap (λ k. drop k behind) unit)
