-- The entry of a line, as the code makes it.
use Rattle.std.proofs.Common.{◌≡◌, ◌++◌, ℕ, List, [], ◌∷◌, Option, Some, map, ap, sym, ◌∙◌}
use Rattle.std.specs.Prelude.{slice_get}
use Rattle.std.proofs.lemmas.List.{map-append}
use Rattle.jiff_tz.specs.declared.timezone.TimeZone.{TimeZone}
use Rattle.cron_units.specs.Sets.{Sets}
use Rattle.cron_tab_lines.specs.Files.{FileLine}
use Rattle.cron_tab_lines.specs.Views.{bytes_view}
use Rattle.cron_tab_agenda.specs.Adding.{changes_of}
use Rattle.cron_tab_agenda.specs.Tabs.{schedules_in}
use Rattle.cron_tab_fires.specs.Entries.{Given, TabFires, entry_at, entry_of, view}
use Rattle.cron_unions.specs.Unions.{any_of}
use Rattle.cron_tab_fires.specs.Fires.{fires_between}
use Rattle.cron_tab_fires.specs.declared.entries.TabFires as code

made : (g : Given) (file : Option (List ℕ)) (l : FileLine) (ss : List Sets) (z : TimeZone) (e : code.TabFires) → bytes_view e.file ≡ file → e.line ≡ l.number
    → e.fires.items ≡ fires_between (any_of ss) z (changes_of g.clock l.bytes) g.t g.u → view e ≡ entry_of g file l ss z
made g file l ss z e f n fires = cc

-- one more entry stands behind the others
pub one_pushed : (g : Given) (file : Option (List ℕ)) (l : FileLine) (number : ℕ) (ss : List Sets) (z : TimeZone) (e : code.TabFires) (old new : List code.TabFires)
    → schedules_in l.outcome ≡ Some ss → slice_get g.zones number ≡ Some z → bytes_view e.file ≡ file → e.line ≡ l.number
    → e.fires.items ≡ fires_between (any_of ss) z (changes_of g.clock l.bytes) g.t g.u → new ≡ old ++ e ∷ []
    → map view new ≡ map view old ++ entry_at g file l number
one_pushed g file l number ss z e old new s lent f n fires is =
    let found : entry_at g file l number ≡ entry_of g file l ss z ∷ [] = rw (s, lent) in
    ap (map view) is ∙ (map-append view old (e ∷ []) ∙ ap (λ (es : List TabFires). map view old ++ es) (ap (λ (x : TabFires). x ∷ []) (made g file l ss z e f n fires) ∙ sym found))
