-- Rows of fires that were written so far.
use Rattle.std.proofs.Common.{◌≡◌, ◌++◌, ◌<◌, ℕ, Bool, true, false, Option, Some, Ok, List, [], ◌∷◌, length, inl, inr, refl, sym, ap, ◌∙◌, append_assoc, append-nil}
use Rattle.std.specs.Prelude.{⊤, Err, Result, if◌then◌else◌, slice_get}
use Rattle.cron_agenda.specs.Entries.{Listed}
use Rattle.cron_tab_agenda.specs.declared.listing.TabFire.{TabFire}
use Rattle.cron_tab_agenda.specs.declared.tab_entry.TabEntry.{TabEntry}
use Rattle.cron_tab_answers.specs.Inner.TabRows.{fault_of, list_end}
use Rattle.cron_replies.specs.Statuses.{Ends, is_write_failure}
use Rattle.cron_tab_answers.specs.TabRows.{AreRows, ListEndsAs, StopsBy, Wanted, IsRow, is_failed, moment_at}
use Rattle.cron_tab_rows.specs.declared.source.Source.{Source}
use Rattle.cron_replies.specs.declared.status.Status.{Status}
use Rattle.cron_replies.specs.declared.status.Status.TheVariants.{Done, No, WrongWords, WriteFailed, Unreadable}
use Rattle.cron_tab_answers.specs.declared.fault.ListFault.{ListFault}
use Rattle.cron_tab_answers.specs.declared.fault.ListFault.TheVariants.{Format, OutOfMemory}
use Rattle.cron_tab_agenda.specs.Listing.{IsTabTaken}
use Rattle.cron_looks.specs.Times.{IsTimeError, is_out_of_memory}
use Rattle.jiff_core.specs.declared.error.Error.{Error}
use Rattle.cron_tab_answers.specs.declared.tab_row.Style.{Style}

-- one more row
pub row_on : (style : Style) (sources : List Source) (fires : List TabFire) (s : Source) (f : TabFire) (report row : List ℕ) → AreRows style sources fires report
    → slice_get sources f.id ≡ Some s → IsRow style s f row → AreRows style sources (fires ++ f ∷ []) (report ++ row)
row_on style sources [] s f report row none got is = (s, row, [], got, ap (λ (r : List ℕ). r ++ row) none ∙ sym (append-nil row), is, refl)
row_on style sources (g ∷ fires) s f report row (t, here, rest, found, e, at, more) got is =
    (t, here, rest ++ row, found, ap (λ (r : List ℕ). r ++ row) e ∙ append_assoc here rest row, at, row_on style sources fires s f rest row more got is)

-- a list ends where a row can't be made
stops_by : (w : Wanted) (count : ℕ) (left after : Listed TabEntry) (f : TabFire) (why : Error) (b : Bool) → count < w.limit
    → IsTabTaken w.zones w.t left f after → IsTimeError w.times (moment_at f.fire) why → is_out_of_memory why ≡ b
    → StopsBy w count (Err (if b then OutOfMemory else Format)) left
stops_by w count left after f why true less takes is e = less
stops_by w count left after f why false less takes is e = (less, (f, after, takes, (why, e, is)))

pub stops_at : (w : Wanted) (count : ℕ) (left after : Listed TabEntry) (f : TabFire) (why : Error) → count < w.limit → IsTabTaken w.zones w.t left f after
    → IsTimeError w.times (moment_at f.fire) why → StopsBy w count (Err (fault_of why)) left
stops_at w count left after f why less takes is = stops_by w count left after f why (is_out_of_memory why) less takes is refl

-- how a list ends
pub rows_end : (w : Wanted) (answer : Result ⊤ ListFault) (status : Status) (fires : List TabFire) (left : Listed TabEntry) (report : List ℕ)
    (old new : Option (List ℕ)) → Ends Done report old new status → (is_write_failure status ≡ false → StopsBy w (length fires) answer left)
    → ListEndsAs (list_end answer status) w fires left report old new
rows_end w (Ok done) status fires left report old new (inr (f, front)) whole = rw f front
rows_end w (Err why) status fires left report old new (inr (f, front)) whole = rw f front
rows_end w (Ok done) status fires left report old new (inl (s, all)) whole = rw s (whole (ap is_write_failure s), all)
rows_end w (Err why) status fires left report old new (inl (s, all)) whole = rw s (whole (ap is_write_failure s), all)

-- and whether a write failed
pub end_marks : (answer : Result ⊤ ListFault) (status : Status) → is_failed (list_end answer status) ≡ is_write_failure status
end_marks (Ok done) status = refl
end_marks (Err why) Done = refl
end_marks (Err why) No = refl
end_marks (Err why) WrongWords = refl
end_marks (Err why) WriteFailed = refl
end_marks (Err why) Unreadable = refl
