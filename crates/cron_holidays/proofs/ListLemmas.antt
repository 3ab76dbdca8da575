-- Lists of dates, line by line.
use Rattle.std.proofs.Common.{◌≡◌, ℕ, suc, ◌+◌, ◌<◌, true, false, List, [], length, take, drop, map, get_or, refl, ap, sym, ◌∙◌, arith, add-one}
use Rattle.std.specs.Prelude.{Option, Some, Result, Ok, Err, ◌==◌, slice_index}
use Rattle.std.proofs.Math.Seq.{drop-cons}
use Rattle.std.proofs.lemmas.Bool.{ne_eqb}
use Rattle.std.proofs.lemmas.List.{drop_all, take_all}
use Rattle.cron_crontab.specs.Items.{and_then}
use Rattle.cron_moments.specs.Civil.{days_in_range}
use Rattle.cron_tab_lines.specs.Bytes.{behind, is_blank}
use Rattle.cron_holidays.specs.Dates.{day_of_dashed, day_of_digits, without_dashes}
use Rattle.cron_holidays.specs.Faults.{Refuses}
use Rattle.cron_holidays.specs.Lists.{dated, is_over, listed_in, with_lines, with_listed}
use Rattle.cron_holidays.specs.Views.{line_view}
use Rattle.cron_holidays.specs.declared.fault.HolidayFault.{HolidayFault}
use Rattle.cron_holidays.specs.declared.fault.HolidayFault.TheVariants.{Refused as OfLine, OutOfMemory}
use Rattle.cron_holidays.specs.declared.fault.Reason.{Reason}
use Rattle.cron_holidays.specs.declared.fault.Reason.TheVariants.{NoDate}
use Rattle.cron_holidays.specs.declared.fault.Refused.{Refused}
use Rattle.cron_holidays.specs.declared.lines.Line.{Line}

-- a text with its two dashes
pub dashed : (end : ℕ) (text : List ℕ) → length text ≡ 10 → slice_index text 4 ≡ 45 → slice_index text 7 ≡ 45 → day_of_dashed end text ≡ day_of_digits end (without_dashes text)
dashed end text ten four seven = rw (ten, four, seven) refl

-- a text that is shorter than a date
pub short-dated : (text : List ℕ) → length text < 10 → dated text ≡ Err NoDate
short-dated text short =
    let none : drop 10 text ≡ [] = drop_all 10 text (omega arith) in
    let whole : take 10 text ≡ text = take_all 10 text (omega arith) in
    let other : (length text == 10) ≡ false = ne_eqb (length text) 10 (λ same. absurd (omega arith)) in
    rw (none, whole, other) refl

-- a text with more than a date and a comment
pub long-dated : (text : List ℕ) → is_over (drop 10 text) ≡ false → dated text ≡ Err NoDate
long-dated text more = rw more refl

pub listed-dated : (text : List ℕ) (answer : Result (Option ℕ) Reason) → is_over text ≡ false → dated (behind is_blank text) ≡ answer → listed_in text ≡ answer
listed-dated text answer some is = rw some is

pub dated-day : (text : List ℕ) (answer : Result ℕ Reason) → is_over (drop 10 text) ≡ true → day_of_dashed days_in_range (take 10 text) ≡ answer
    → dated text ≡ and_then answer (λ day. Ok (Some day))
dated-day text answer over is = rw over (ap (λ r. and_then r (λ day. Ok (Some day))) is)

-- the first of the lines that are left is read
pub first-listed : (days next : List ℕ) (lines : List Line) (i : ℕ) (d : Line) → i < length lines → with_listed days (line_view (get_or lines i d)) ≡ Ok next
    → with_lines days (map line_view (drop i lines)) ≡ with_lines next (map line_view (drop (i + 1) lines))
first-listed days next lines i d room is =
    rw (add-one, drop-cons lines i d room) (ap (λ r. and_then r (λ more. with_lines more (map line_view (drop (suc i) lines)))) is)

-- it is refused
pub first-refused : (days : List ℕ) (lines : List Line) (i : ℕ) (d : Line) (fault : HolidayFault) → i < length lines → Refuses (with_listed days (line_view (get_or lines i d))) fault
    → Refuses (with_lines days (map line_view (drop i lines))) fault
first-refused days lines i d (OfLine refused) room is =
    rw (drop-cons lines i d room) (ap (λ r. and_then r (λ more. with_lines more (map line_view (drop (suc i) lines)))) is)
first-refused days lines i d OutOfMemory room is = tt

-- equal answers are refused alike
pub refuses-same : {A : Type 0} (a b : Result A Refused) (fault : HolidayFault) → a ≡ b → Refuses a fault → Refuses b fault
refuses-same a b (OfLine refused) same is = sym same ∙ is
refuses-same a b OutOfMemory same is = tt
