use Rattle.std.proofs.Common.{◌≡◌, Ok, map, length, refl, rules, ap, ◌∙◌}
use Rattle.std.specs.Option.{option_map}
use Rattle.std.proofs.lemmas.Option.{slice_get_read, slice_get-map}
use Rattle.jiff.specs.Words.{plain_zone}
use Rattle.cron_tab_lines.specs.Lines.{entry}
use Rattle.cron_tab_lines.specs.Views.{bytes_view, entry_view, file_line_view}
use Rattle.cron_tab_missed.specs.Entries.{given}
use Rattle.cron_tab_missed.specs.Inner.Founds.{found_view}
use Rattle.cron_tab_missed.proofs.EntryLemmas.{one_found}
use Rattle.cron_tab_missed.proofs.entries.add_entry.Goals as goal

pub returns-clause-ok : goal.returns-clause-ok
returns-clause-ok c =
    let zones = c.args.zones.now in
    let lookup = c.in-Some.ensures.lookup in
    let lent = slice_get_read zones (length zones) c.args.number c.in-Some.zone.now refl lookup.3.0 (lookup.3.1 _) in
    let read : (file_line_view c.args.line.now).outcome ≡ Ok (entry (entry_view c.in-Ok-Entry.entry)) = search rules in
    one_found (given (map plain_zone zones) c.args.asked.now) (bytes_view c.args.file) (file_line_view c.args.line.now) c.args.number
    (entry_view c.in-Ok-Entry.entry) (plain_zone c.in-Some.zone.now) (found_view c.args.found.now) _ c.in_ok-key.key.items
    (option_map (λ t. t.nanosecond) c.start_of-start.result) c.changes_of-changes.result c.missed_since-missed.result
    read (slice_get-map plain_zone zones c.args.number ∙ ap (option_map plain_zone) lent)
    c.in_ok-key.ensures (search rules) c.changes_of-changes.ensures c.missed_since-missed.ensures
    c.in_ok-push_key.ensures c.in_ok-push_missed.ensures
