use Rattle.std.proofs.Common.{◌≡◌, ◌∙◌, ap, arith, of_z, pos, to_z, w64}
use Rattle.jiff_core.proofs.SignedLemmas.{signed_casts}
use Rattle.jiff_tz.specs.Tzif.{civil_count_at}
use Rattle.cron_clocks.proofs.TableLemmas.{alike_where, told_where}
use Rattle.cron_clocks.proofs.table.table_offsets.Goals as goal

pub returns-clause-alike : goal.returns-clause-alike
returns-clause-alike c =
    let z = c.args.table.now in
    let at : to_z w64 (of_z w64 c.from-at.result) ≡ pos c.args.second = omega (arith, signed_casts, c.from-at.ensures, c.requires) in
    let told = c.table_offsets_past-told.ensures in
    let span = rw at at c.between_transitions.ensures in
    alike_where z c.args.second c.transitions_by-count.result c.table_offsets_past-told.result.span.first c.table_offsets_past-told.result.span.end
    c.between_transitions.result.first c.between_transitions.result.end (c.transitions_by-count.ensures.value ∙ ap (civil_count_at z) at)
    span.low span.high told.narrowed span.narrowed span.between told.alike

pub returns-clause-told : goal.returns-clause-told
returns-clause-told c =
    let z = c.args.table.now in
    let at : to_z w64 (of_z w64 c.from-at.result) ≡ pos c.args.second = omega (arith, signed_casts, c.from-at.ensures, c.requires) in
    told_where z c.args.second c.transitions_by-count.result c.table_offsets_past-told.result.earlier c.table_offsets_past-told.result.later c.requires
    (c.transitions_by-count.ensures.value ∙ ap (civil_count_at z) at) c.table_offsets_past-told.ensures.told
