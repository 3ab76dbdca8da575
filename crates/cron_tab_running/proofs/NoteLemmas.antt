-- What was taken of a run's fires where it is noted how far the run has come.
use Rattle.std.proofs.Common.{◌≡◌, ℤ, Bool, true, false, ◌||◌, int_le, List, [], ◌∷◌, ◌++◌, map, refl, ap, sym, ◌∙◌, inl, inr, subst, arith}
use Rattle.std.specs.Prelude.{Ok, filter}
use Rattle.std.proofs.lemmas.List.Elements.{filter-append}
use Rattle.cron_agenda.specs.Entries.{Listed, is_by}
use Rattle.cron_agenda.specs.Merged.{AllAscend, merged, own_of}
use Rattle.cron_agenda.specs.declared.entry.Entry.{Entry}
use Rattle.cron_agenda.proofs.EntryLemmas.{none_due}
use Rattle.cron_agenda.proofs.RestLemmas.{taken_are_the_front}
use Rattle.cron_agenda_scheduler.specs.Late.{Tables}
use Rattle.cron_agenda_scheduler.specs.Laws.{LeavesAgenda, is_due}
use Rattle.cron_agenda_scheduler.specs.Turns.{JobCalls, RunsDue, all_taken}
use Rattle.cron_agenda_scheduler.proofs.LawLemmas.{deeds_are_all_due}
use Rattle.cron_agenda_scheduler.proofs.RunLemmas.{turns_are_taken}
use Rattle.cron_scheduler.specs.Runs.{ClockCalls}
use Rattle.cron_tab_running.specs.Clocks.{is_due as is_come, is_waited}
use Rattle.cron_tab_running.specs.Laws.{MayNote, NotesAreTrue}
use Rattle.cron_tab_running.specs.declared.run_clock.RunClock.{RunClock}

neither : (a b : Bool) → (a || b) ≡ false → b ≡ false
neither true b is = absurd (cc)
neither false b is = is

append_nothing : {A : Type 0} (l : List A) → l ++ [] ≡ l
append_nothing [] = refl
append_nothing (x ∷ l) = ap (λ m. x ∷ m) (append_nothing l)

none_by : {T C F S : Type 0} (c : RunClock C F S) (es : List (Entry T)) → MayNote c es → filter (is_by c.noted.until.nanosecond) es ≡ []
none_by c es (inl none) = ap (filter (is_by c.noted.until.nanosecond)) none
none_by c es (inr (e, t, first, is, open_)) =
    none_due c.noted.until.nanosecond es e first
    (subst (λ n. int_le n c.noted.until.nanosecond ≡ false) is (neither (is_waited c.until t) (is_come c.noted t) open_))

module _ {T C F S J E G : Type 0} (ts : Tables T) (cs : ClockCalls (RunClock C F S) E) (js : JobCalls T J G) where
  -- an agenda of which nothing is due has no fire left that is due
  none_left : (t : ℤ) (b : Listed T) (k : J) → LeavesAgenda js → AllAscend ts.has ts.zones b.entries → filter (is_by t) b.entries ≡ []
      → filter (is_due t) (merged ts.has ts.zones b.entries) ≡ []
  none_left t b k leaves up none =
      let runs : RunsDue {E = E} ts js t 1 [] b k (Ok 1) b k = record {
        agenda = b;
        job = k;
        are_done = (refl, refl);
        had_runs = tt;
        ends = (refl, refl, inl (none, refl));
      } in
      sym (deeds_are_all_due ts js t 1 1 [] b k b k leaves up runs (omega arith) (omega arith))

  pub notes_are_true : NotesAreTrue ts cs js
  notes_are_true turns most left c a j c' b k leaves up are may =
      let t = c'.noted.until.nanosecond in
      let front = taken_are_the_front ts.has ts.zones (all_taken turns) a.entries b.entries up
      (turns_are_taken ts cs js turns most left c a j c' b k leaves are) in
      ap (filter (is_due t)) front.0
      ∙ filter-append (is_due t) (map own_of (all_taken turns)) (merged ts.has ts.zones b.entries)
      ∙ ap (λ l. filter (is_due t) (map own_of (all_taken turns)) ++ l) (none_left t b k leaves front.1 (none_by c' b.entries may))
      ∙ append_nothing (filter (is_due t) (map own_of (all_taken turns)))
