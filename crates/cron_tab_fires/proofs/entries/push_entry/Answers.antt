use Rattle.std.proofs.Common.{◌≡◌, Some, map, length, refl, rules, ap, ◌∙◌}
use Rattle.std.specs.Option.{option_map}
use Rattle.std.proofs.lemmas.Option.{slice_get_read, slice_get-map}
use Rattle.jiff.specs.Words.{plain_zone}
use Rattle.cron_unions.specs.Unions.{any_of}
use Rattle.cron_tab_lines.specs.Views.{bytes_view, file_line_view}
use Rattle.cron_tab_agenda.specs.Tabs.{schedules_in}
use Rattle.cron_fires.specs.declared.changes.ClockChanges.{ClockChanges}
use Rattle.cron_tab_fires.specs.Entries.{given}
use Rattle.cron_tab_fires.specs.Fires.{fires_between}
use Rattle.cron_tab_fires.proofs.EntryLemmas.{one_pushed}
use Rattle.cron_tab_fires.proofs.entries.push_entry.Goals as goal

pub returns-clause-ok : goal.returns-clause-ok
returns-clause-ok c =
    let zones = c.args.zones.now in
    let lookup = c.in-Some.ensures.lookup in
    let lent = slice_get_read zones (length zones) c.args.number c.in-Some.zone.now refl lookup.3.0 (lookup.3.1 _) in
    let found : schedules_in (file_line_view c.args.line.now).outcome ≡ Some c.as_slice-schedules.result.now = search rules in
    one_pushed (given (map plain_zone zones) c.args.asked.now) (bytes_view c.args.file) (file_line_view c.args.line.now) c.args.number
    c.as_slice-schedules.result.now (plain_zone c.in-Some.zone.now) _ _ _ found (slice_get-map plain_zone zones c.args.number ∙ ap (option_map plain_zone) lent) refl refl
    (c.in-Ok.ensures ∙ ap (λ (changes : ClockChanges). fires_between (any_of c.as_slice-schedules.result.now) (plain_zone c.in-Some.zone.now) changes
    c.args.asked.now.start.nanosecond c.args.asked.now.end.nanosecond) c.changes_of-changes.ensures)
    c.in-Ok-push.ensures.items
