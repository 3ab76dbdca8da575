-- The entry of a line, as the code makes it, and why entries can't be listed.
use Rattle.std.proofs.Common.{◌≡◌, ◌++◌, ℕ, ℤ, List, [], ◌∷◌, Option, Some, Ok, refl, inr, ap, ◌∙◌}
use Rattle.std.specs.Prelude.{slice_get}
use Rattle.jiff_tz.specs.declared.timezone.TimeZone.{TimeZone}
use Rattle.cron_fires.specs.declared.changes.ClockChanges.{ClockChanges}
use Rattle.cron_tab_lines.specs.Entries as lines
use Rattle.cron_tab_lines.specs.Files.{FileLine}
use Rattle.cron_tab_lines.specs.Lines.{entry}
use Rattle.cron_tab_agenda.specs.Adding.{changes_of}
use Rattle.cron_tab_agenda.specs.Tabs.{schedules_by}
use Rattle.cron_tab_agenda.specs.declared.tab_file.TabFile.{TabFile}
use Rattle.cron_tab_missed.specs.Entries.{Found, Given, TabMissed, entry_of, fires_since, key_of, start_of, with_entry}
use Rattle.cron_tab_missed.specs.Errors.{IsFilesError}
use Rattle.cron_tab_missed.specs.Inner.Founds.{entry_with}
use Rattle.cron_tab_missed.specs.Missed.{missed_of}
use Rattle.cron_tab_missed.specs.declared.counting.Missed.{Missed}
use Rattle.cron_tab_missed.specs.declared.error.MissedError.TheVariants.{OutOfMemory}

-- memory may run out, whatever the files hold
pub memory_runs_out : (g : Given) (files : List TabFile) → IsFilesError g files OutOfMemory
memory_runs_out g [] = refl
memory_runs_out g (f ∷ files) = inr (memory_runs_out g files)

made : (g : Given) (file : Option (List ℕ)) (l : FileLine) (e : lines.Entry) (z : TimeZone) (start right : Option ℤ) (changes : ClockChanges) (missed : Missed)
    → start ≡ right → changes ≡ changes_of g.clock l.bytes → missed ≡ missed_of (fires_since z changes (schedules_by e.meaning) start g.until)
    → entry_with file l e missed ≡ entry_of g file l e z right
made g file l e z start right changes missed begins rule counts =
    let by_rule = ap (λ (c : ClockChanges). missed_of (fires_since z c (schedules_by e.meaning) start g.until)) rule in
    let by_start = ap (λ (s : Option ℤ). missed_of (fires_since z (changes_of g.clock l.bytes) (schedules_by e.meaning) s g.until)) begins in
    ap (entry_with file l e) (counts ∙ (by_rule ∙ by_start))

-- the entry of a line, and its key, follow those before
pub one_found : (g : Given) (file : Option (List ℕ)) (l : FileLine) (number : ℕ) (e : lines.Entry) (z : TimeZone) (old new : Found) (key : List ℕ)
    (start : Option ℤ) (changes : ClockChanges) (missed : Missed) → l.outcome ≡ Ok (entry e) → slice_get g.zones number ≡ Some z
    → key ≡ key_of g number l → start ≡ start_of g.since old.keys key → changes ≡ changes_of g.clock l.bytes
    → missed ≡ missed_of (fires_since z changes (schedules_by e.meaning) start g.until) → new.keys ≡ old.keys ++ key ∷ []
    → new.entries ≡ old.entries ++ entry_with file l e missed ∷ [] → new ≡ with_entry g file old l number l.outcome (slice_get g.zones number)
one_found g file l number e z old new key start changes missed read lent known begins rule counts keys entries =
    let right = start_of g.since old.keys (key_of g number l) in
    let same = made g file l e z start right changes missed (begins ∙ ap (start_of g.since old.keys) known) rule counts in
    let all_keys : new.keys ≡ old.keys ++ key_of g number l ∷ [] = keys ∙ ap (λ (k : List ℕ). old.keys ++ k ∷ []) known in
    let all_entries : new.entries ≡ old.entries ++ entry_of g file l e z right ∷ [] = entries ∙ ap (λ (x : TabMissed). old.entries ++ x ∷ []) same in
    let of_keys : new ≡ record { keys = old.keys ++ key_of g number l ∷ []; entries = new.entries } = ap (λ (ks : List (List ℕ)). record { keys = ks; entries = new.entries }) all_keys in
    let of_entries = ap (λ (es : List TabMissed). record { keys = old.keys ++ key_of g number l ∷ []; entries = es }) all_entries in
    let found : record { keys = old.keys ++ key_of g number l ∷ []; entries = old.entries ++ entry_of g file l e z right ∷ [] }
    ≡ with_entry g file old l number l.outcome (slice_get g.zones number) = rw (read, lent) in
    of_keys ∙ (of_entries ∙ found)
