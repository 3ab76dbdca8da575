-- What the text of a due fire spells at its places.
use Rattle.std.proofs.Common.{◌≡◌, ℕ, ◌+◌, ◌-◌, ◌*◌, ◌/◌, ◌%◌, ◌<◌, ◌^◌, ◌==◌, ◌⊎◌, inl, inr, Bool, true, false, cond, ℤ, pos, negsuc, neg_ℤ, ◌≤ℤ◌, List, [], ◌∷◌, ◌++◌, length, take, drop, Ok, Err, Some, None, rules, refl, sym, ap, ◌∙◌, subst, arith, unsigned_abs}
use Rattle.std.specs.Prelude.{codes, slice_index, slice_range, Result, IfOk, IsOk}
use Rattle.std.specs.Result.{result_ok}
use Rattle.std.proofs.lemmas.Int.{by_lt_z}
use Rattle.std.specs.Option.{unwrap_or}
use Rattle.std.proofs.lemmas.Bool.{true≢false}
use Rattle.std.proofs.lemmas.Option.{none-some}
use Rattle.std.proofs.Math.Seq.{drop-append_seam, take-append_seam, take-length}
use Rattle.std.proofs.lemmas.List.{drop-drop, length-append, length-drop}
use Rattle.jiff_core.specs.declared.Offset.{Offset}
use Rattle.jiff_core.specs.declared.civil.date.Date.{Date}
use Rattle.jiff_core.specs.declared.civil.datetime.DateTime.{DateTime}
use Rattle.jiff_core.specs.declared.civil.time.Time.{Time}
use Rattle.jiff_core.specs.declared.error.Error.{Error}
use Rattle.jiff_core.specs.Calendar.{IsDate, IsYear, days_from_civil}
use Rattle.jiff_core.specs.DateTime.{civil_seconds}
use Rattle.jiff_core.specs.Time.{time_nanos, time_seconds}
use Rattle.jiff_core.proofs.CalendarLemmas.{days_from_civil-day_count, day_count-epoch}
use Rattle.jiff_core.specs.Date.{epoch_day}
use Rattle.jiff_core.specs.Timestamp.{IsOffsetSeconds}
use Rattle.jiff_core.proofs.SignedLemmas.{signed_arith}
use Rattle.jiff_core.proofs.DateLemmas.{epoch_day-lt, epoch_day_same}
use Rattle.cron_moments.specs.Civil.{civil, time_numbered}
use Rattle.cron_moments.specs.CivilDates.{date_numbered}
use Rattle.cron_moments.specs.MomentText.{date_text, moment_text, offset_text, seconds_text, size_of, time_text, two_digits}
use Rattle.cron_clocks.proofs.TableLemmas.{same_offset}
use Rattle.cron_moments.proofs.CivilLemmas.{date-civil, epoch_day-civil}
use Rattle.cron_moments.proofs.DateLemmas.{day_low}
use Rattle.cron_dues.specs.Due.{CanBeDue, Due, parts}
use Rattle.cron_dues.specs.DueReading.{TextsDiffer}
use Rattle.cron_dues.specs.DueText.{due_text, nominal_text, shown}
use Rattle.cron_dues.specs.Inner.Digits.{CanEnd, number_at}

two-is : (n : ℕ) → n < 100 → (48 + n / 10 % 10 - 48) * 10 + (48 + n % 10 - 48) ≡ n
two-is n h = omega arith

four-is : (n : ℕ) → n < 10_000
    → ((48 + n / 100 / 10 % 10 - 48) * 10 + (48 + n / 100 % 10 - 48)) * 100 + ((48 + n / 10 % 10 - 48) * 10 + (48 + n % 10 - 48)) ≡ n
four-is n h = omega arith

size-is : (y : ℤ) → pos 0 ≤ℤ y → y ≡ pos (size_of y)
size-is (pos n) h = refl
size-is (negsuc n) h = absurd (omega (arith, signed_arith))

size-within : (y : ℤ) → IsYear y → size_of y < 10_000
size-within (pos n) h = omega (arith, signed_arith, h)
size-within (negsuc n) h = omega (arith, signed_arith, h)

-- a date's numbers
pub year-at : (d : Date) → pos 0 ≤ℤ d.year → pos (number_at (date_text d) 0 * 100 + number_at (date_text d) 2) ≡ d.year
year-at d h = ap pos (four-is (size_of d.year) (size-within d.year d.year_in)) ∙ sym (size-is d.year h)

pub month-at : (d : Date) → number_at (date_text d) 5 ≡ d.month
month-at d = two-is d.month (omega (arith, d.month_in))

pub day-at : (d : Date) → number_at (date_text d) 8 ≡ d.day
day-at d = two-is d.day (omega (arith, day_low d))

-- the seconds of a day
pub time-at : (c : ℕ)
    → number_at (time_text (civil c).time) 0 * 3600 + number_at (time_text (civil c).time) 3 * 60 + number_at (time_text (civil c).time) 6 ≡ c % 86_400
unfolding civil time_numbered
time-at c =
    omega (arith, two-is (c % 86_400 / 3600) (omega arith), two-is (c % 3600 / 60) (omega arith), two-is (c % 60) (omega arith))

-- what the text of an offset spells
pub record SpellsSize (n : ℕ) (text : List ℕ) : Type 0 where
  pub long : (length text ≡ 6) ⊎ (length text ≡ 9)
  pub minutes : length text ≡ 6 → (number_at text 1 * 60 + number_at text 4) * 60 ≡ n
  pub seconds : length text ≡ 9 → (number_at text 1 * 60 + number_at text 4) * 60 + number_at text 7 ≡ n

unsigned_text : ℕ → List ℕ
unsigned_text n = two_digits (n / 3600) ++ (codes ":" ++ (two_digits (n / 60 % 60) ++ seconds_text (n % 60)))

size-at : (sign n : ℕ) → n < 360_000 → SpellsSize n (sign ∷ unsigned_text n)
unfolding unsigned_text
size-at sign n small = by_seconds (n % 60 == 0) refl
  where
    hours : (48 + n / 3600 / 10 % 10 - 48) * 10 + (48 + n / 3600 % 10 - 48) ≡ n / 3600
    hours = two-is (n / 3600) (omega arith)

    minutes : (48 + n / 60 % 60 / 10 % 10 - 48) * 10 + (48 + n / 60 % 60 % 10 - 48) ≡ n / 60 % 60
    minutes = two-is (n / 60 % 60) (omega arith)

    seconds : (48 + n % 60 / 10 % 10 - 48) * 10 + (48 + n % 60 % 10 - 48) ≡ n % 60
    seconds = two-is (n % 60) (omega arith)

    by_seconds : (none : Bool) → (n % 60 == 0) ≡ none
        → SpellsSize n (sign ∷ (two_digits (n / 3600) ++ (codes ":" ++ (two_digits (n / 60 % 60) ++ cond none [] (codes ":" ++ two_digits (n % 60))))))
    by_seconds true is = record {
      long = inl refl;
      minutes = λ _. let whole : n % 60 ≡ 0 = grind arith in omega (arith, hours, minutes, whole);
      seconds = λ e. absurd (omega arith);
    }
    by_seconds false is = record {
      long = inr refl;
      minutes = λ e. absurd (omega arith);
      seconds = λ _. omega (arith, hours, minutes, seconds);
    }

size-of-at : (z : ℤ) → IsOffsetSeconds z → SpellsSize (size_of z) (offset_text z)
unfolding unsigned_text
size-of-at (pos n) near = size-at 43 n (omega (arith, signed_arith, near))
size-of-at (negsuc n) near = size-at 45 (n + 1) (omega (arith, signed_arith, near))

pub offset-at : (o : Offset) → SpellsSize (size_of o.seconds) (offset_text o.seconds)
offset-at o = size-of-at o.seconds o.in_range

-- the offset itself, by its sign
abbrev pub spelt_offset : List ℕ → ℕ → ℤ
spelt_offset text size = cond (slice_index text 0 == 45) (neg_ℤ (pos size)) (pos size)

pub sign-at : (z : ℤ) → spelt_offset (offset_text z) (size_of z) ≡ z
sign-at (pos n) = refl
sign-at (negsuc n) = omega (arith, signed_arith)

-- the same of an offset's size
pub minus-is : (z : ℤ) (text : List ℕ) → text ≡ offset_text z → slice_index text 0 ≡ 45 → neg_ℤ (pos (unsigned_abs z)) ≡ z
minus-is (pos n) text is minus = absurd (omega (arith, minus, ap (λ (l : List ℕ). slice_index l 0) is))
minus-is (negsuc n) text is minus = omega (arith, signed_arith)

pub plus-is : (z : ℤ) (text : List ℕ) → text ≡ offset_text z → (slice_index text 0 ≡ 45 → ⊥) → pos (unsigned_abs z) ≡ z
plus-is (pos n) text is plus = refl
plus-is (negsuc n) text is plus = absurd (plus (ap (λ (l : List ℕ). slice_index l 0) is))

-- what a reader made
pub some-once : {X : Type 0} (a b : X) → Some a ≡ Some b → a ≡ b
some-once a b same = ap (λ o. unwrap_or o a) same

pub offset-found : (r : Result Offset Error) (z : ℤ) (o : Offset) → IfOk r (λ p. p.seconds ≡ z) → (IsOffsetSeconds z → IsOk r) → z ≡ o.seconds
    → result_ok r ≡ Some o
offset-found (Ok p) z o is succeeds same = ap Some (same_offset p o (is ∙ same))
offset-found (Err e) z o is succeeds same = absurd (true≢false (sym (succeeds (subst IsOffsetSeconds (sym same) o.in_range))))

pub made : (r : Result Date Error) (d : Date) (P : Date → Type 0) → Some d ≡ result_ok r → IfOk r P → P d
made (Ok e) d P is holds = subst P (sym (some-once d e is)) holds
made (Err e) d P is holds = absurd (none-some d (sym is))

pub refused : (r : Result Date Error) → None ≡ result_ok r → IsOk r → ⊥
refused (Ok e) is ok = none-some e is
refused (Err e) is ok = true≢false (sym ok)

-- an offset's text is its own
pub offset-once : (o p : Offset) → offset_text o.seconds ≡ offset_text p.seconds → o ≡ p
offset-once o p same =
    let a = offset-at o in
    let b = subst (SpellsSize (size_of p.seconds)) (sym same) (offset-at p) in
    let size : size_of o.seconds ≡ size_of p.seconds = elim a.long [
      | inl six ↦ sym (a.minutes six) ∙ b.minutes six
      | inr nine ↦ sym (a.seconds nine) ∙ b.seconds nine
    ] in
    same_offset o p (sym (sign-at o.seconds) ∙ ap (λ (n : ℕ). spelt_offset (offset_text o.seconds) n) size
    ∙ ap (λ (l : List ℕ). spelt_offset l (size_of p.seconds)) same ∙ sign-at p.seconds)

-- ---- dates

first_day : days_from_civil (pos 1970) 1 1 ≡ pos 0
first_day = omega (arith, signed_arith, days_from_civil-day_count (pos 1970) 1 1, day_count-epoch)

first_date : Date
first_date = record { year = pos 1970; month = 1; day = 1; year_in = search rules; month_in = search rules; day_in = search rules }

first_epoch : epoch_day first_date ≡ pos 0
unfolding first_date
first_epoch = first_day

low_year : (d : Date) → pos 0 ≤ℤ epoch_day d → pos 0 ≤ℤ d.year
unfolding first_date
low_year d h =
    by_lt_z d.year (pos 1970) (λ lt. absurd (omega (arith, signed_arith, first_epoch, epoch_day-lt d first_date (inl lt)))) (λ ge. omega (arith, signed_arith, ge))

pub date-low : (c : ℕ) → c < 2 ^ 32 → pos 0 ≤ℤ (civil c).date.year
date-low c h = low_year (civil c).date (omega (arith, signed_arith, epoch_day-civil c h))

-- what the text of a civil second's date spells
pub record SpellsDate (d : Date) (text : List ℕ) : Type 0 where
  pub year : pos (number_at text 0 * 100 + number_at text 2) ≡ d.year
  pub month : number_at text 5 ≡ d.month
  pub day : number_at text 8 ≡ d.day

pub date-spells : (c : ℕ) (text : List ℕ) → c < 2 ^ 32 → text ≡ date_text (civil c).date → SpellsDate (civil c).date text
date-spells c text h is =
    let d = (civil c).date in
    subst (SpellsDate d) (sym is) (record { year = year-at d (date-low c h); month = month-at d; day = day-at d })

pub is-date : (d : Date) (y m k : ℤ) → y ≡ d.year → m ≡ pos d.month → k ≡ pos d.day → IsDate y m k
is-date d y m k year month day =
    let low = d.month_in in
    let days = d.day_in in
    rw (year, month, day) (d.year_in, (omega (arith, signed_arith), omega (arith, signed_arith)), (omega (arith, signed_arith), omega (arith, signed_arith)))

pub midnight-is : (c : ℕ) (dt : DateTime) (d : Date) (t : Time) (n : ℤ) → c < 2 ^ 32 → n ≡ civil_seconds dt → dt.date ≡ d → dt.time ≡ t
    → time_nanos t ≡ 0 → d.year ≡ (civil c).date.year → d.month ≡ (civil c).date.month → d.day ≡ (civil c).date.day → n ≡ pos (c / 86_400 * 86_400)
unfolding civil_seconds
midnight-is c dt d t n h is date time zero year month day =
    let days : epoch_day dt.date ≡ epoch_day (civil c).date = ap epoch_day date ∙ epoch_day_same d (civil c).date year month day in
    let seconds : time_seconds dt.time ≡ 0 = ap time_seconds time ∙ omega (arith, zero) in
    omega (arith, signed_arith, is, days, seconds, epoch_day-civil c h)

-- so are those of a civil second's date and time

pub second-once : (c e : ℕ) → c < 2 ^ 32 → e < 2 ^ 32 → date_text (civil c).date ≡ date_text (civil e).date
    → time_text (civil c).time ≡ time_text (civil e).time → c ≡ e
second-once c e hc he dates times =
    let a = (civil c).date in
    let b = (civil e).date in
    let year : a.year ≡ b.year = sym (year-at a (date-low c hc))
    ∙ ap (λ (l : List ℕ). pos (number_at l 0 * 100 + number_at l 2)) dates ∙ year-at b (date-low e he) in
    let month : a.month ≡ b.month = sym (month-at a) ∙ ap (λ (l : List ℕ). number_at l 5) dates ∙ month-at b in
    let day : a.day ≡ b.day = sym (day-at a) ∙ ap (λ (l : List ℕ). number_at l 8) dates ∙ day-at b in
    let days : epoch_day a ≡ epoch_day b = epoch_day_same a b year month day in
    let rest : c % 86_400 ≡ e % 86_400 = sym (time-at c)
    ∙ ap (λ (l : List ℕ). number_at l 0 * 3600 + number_at l 3 * 60 + number_at l 6) times ∙ time-at e in
    omega (arith, signed_arith, days, epoch_day-civil c hc, epoch_day-civil e he, rest)

-- the pieces of the text of a due fire, up to the end of its offset ..
pub record Spells (d : Due) (text : List ℕ) (end : ℕ) : Type 0 where
  pub end_is : (end ≡ 26) ⊎ (end ≡ 29)
  pub date : take 10 text ≡ date_text (civil (d.second + d.past)).date
  pub time : slice_range text 11 19 ≡ time_text (civil (d.second + d.past)).time
  pub offset : slice_range text 20 end ≡ offset_text d.offset.seconds
  pub rest : drop end text ≡ cond (d.past == 0) [] (codes " for " ++ nominal_text d)
  pub length_is : length text ≡ end + length (drop end text)

abbrev pub end_of : Due → ℕ
end_of d = 20 + length (offset_text d.offset.seconds)

twenty : (n : ℕ) → 20 + n - 20 ≡ n
twenty n = omega arith

pub spells : (d : Due) → Spells d (due_text d) (end_of d)
unfolding due_text moment_text
spells d =
    let offset = offset_text d.offset.seconds in
    let rest = cond (d.past == 0) [] (codes " for " ++ nominal_text d) in
    let dropped : drop (length offset) (offset ++ rest) ≡ rest = drop-append_seam offset rest in
    let cut : drop (end_of d) (due_text d) ≡ drop (length offset) (offset ++ rest) = sym (drop-drop (length offset) 20 (due_text d)) in
    record {
      end_is = elim (offset-at d.offset).long [
        | inl six ↦ inl (ap (λ n. 20 + n) six)
        | inr nine ↦ inr (ap (λ n. 20 + n) nine)
      ];
      date = refl;
      time = refl;
      offset = ap (λ (n : ℕ). take n (offset ++ rest)) (twenty (length offset)) ∙ take-append_seam offset rest;
      rest = cut ∙ dropped;
      length_is = omega (arith, length-append offset rest, ap (λ (l : List ℕ). length l) (cut ∙ dropped));
    }

-- .. and the nominal time behind ` for `
pub record SpellsNominal (d : Due) (text : List ℕ) (end : ℕ) : Type 0 where
  pub none : length text ≡ end → d.past ≡ 0
  pub time : length text ≡ end + 13 → (d.second / 86_400 ≡ (d.second + d.past) / 86_400) × (drop (end + 5) text ≡ time_text (civil d.second).time)
  pub date : length text ≡ end + 24 → slice_range text (end + 5) (end + 15) ≡ date_text (civil d.second).date
  pub date_time : length text ≡ end + 24 → drop (end + 16) text ≡ time_text (civil d.second).time
  pub long : (length text ≡ end) ⊎ ((length text ≡ end + 13) ⊎ (length text ≡ end + 24))

behind : (text rest : List ℕ) (end n : ℕ) → drop end text ≡ rest → drop (end + n) text ≡ drop n rest
behind text rest end n is = sym (drop-drop n end text) ∙ ap (drop n) is

length-is : (text rest : List ℕ) (end : ℕ) → drop end text ≡ rest → length text ≡ end + length (drop end text) → length text ≡ end + length rest
length-is text rest end is long = long ∙ ap (λ (l : List ℕ). end + length l) is

ten : (end : ℕ) → end + 15 - (end + 5) ≡ 10
ten end = omega arith

nominal-spells : (d : Due) (text : List ℕ) (end : ℕ) (none same : Bool) → (d.past == 0) ≡ none
    → (d.second / 86_400 == (d.second + d.past) / 86_400) ≡ same
    → drop end text
    ≡ cond none [] (codes " for "
    ++ cond same (time_text (civil d.second).time) (date_text (civil d.second).date ++ (codes " " ++ time_text (civil d.second).time)))
    → length text ≡ end + length (drop end text) → SpellsNominal d text end
nominal-spells d text end true same e f is long =
    let is_long : length text ≡ end + 0 = length-is text _ end is long in
    record {
      none = λ _. grind arith;
      time = λ h. absurd (omega arith);
      date = λ h. absurd (omega arith);
      date_time = λ h. absurd (omega arith);
      long = inl (omega arith);
    }
nominal-spells d text end false true e f is long =
    let is_long : length text ≡ end + 13 = length-is text _ end is long in
    record {
      none = λ h. absurd (omega arith);
      time = λ _. (grind arith, behind text _ end 5 is);
      date = λ h. absurd (omega arith);
      date_time = λ h. absurd (omega arith);
      long = inr (inl is_long);
    }
nominal-spells d text end false false e f is long =
    let is_long : length text ≡ end + 24 = length-is text _ end is long in
    record {
      none = λ h. absurd (omega arith);
      time = λ h. absurd (omega arith);
      date = λ _. ap (λ (n : ℕ). take n (drop (end + 5) text)) (ten end) ∙ ap (take 10) (behind text _ end 5 is);
      date_time = λ _. behind text _ end 16 is;
      long = inr (inr is_long);
    }

pub nominal-at : (d : Due) (text : List ℕ) (end : ℕ) → Spells d text end → SpellsNominal d text end
nominal-at d text end s = nominal-spells d text end (d.past == 0) (d.second / 86_400 == (d.second + d.past) / 86_400) refl refl s.rest s.length_is

-- a text from a place on, as it is cut
pub to-the-end : (n : ℕ) (text : List ℕ) → slice_range text n (length text) ≡ drop n text
to-the-end n text = ap (λ (k : ℕ). take k (drop n text)) (sym (length-drop n text)) ∙ take-length (drop n text)

-- ---- where the offset ends

pub end-once : (len e f : ℕ) → CanEnd len e → CanEnd len f → e ≡ f
end-once len e f (inl a, ends) (inl b, others) = a ∙ sym b
end-once len e f (inr a, ends) (inr b, others) = a ∙ sym b
end-once len e f (inl a, inl p) (inr b, inl q) = absurd (omega arith)
end-once len e f (inl a, inl p) (inr b, inr (inl q)) = absurd (omega arith)
end-once len e f (inl a, inl p) (inr b, inr (inr q)) = absurd (omega arith)
end-once len e f (inl a, inr (inl p)) (inr b, inl q) = absurd (omega arith)
end-once len e f (inl a, inr (inl p)) (inr b, inr (inl q)) = absurd (omega arith)
end-once len e f (inl a, inr (inl p)) (inr b, inr (inr q)) = absurd (omega arith)
end-once len e f (inl a, inr (inr p)) (inr b, inl q) = absurd (omega arith)
end-once len e f (inl a, inr (inr p)) (inr b, inr (inl q)) = absurd (omega arith)
end-once len e f (inl a, inr (inr p)) (inr b, inr (inr q)) = absurd (omega arith)
end-once len e f (inr a, inl p) (inl b, inl q) = absurd (omega arith)
end-once len e f (inr a, inl p) (inl b, inr (inl q)) = absurd (omega arith)
end-once len e f (inr a, inl p) (inl b, inr (inr q)) = absurd (omega arith)
end-once len e f (inr a, inr (inl p)) (inl b, inl q) = absurd (omega arith)
end-once len e f (inr a, inr (inl p)) (inl b, inr (inl q)) = absurd (omega arith)
end-once len e f (inr a, inr (inl p)) (inl b, inr (inr q)) = absurd (omega arith)
end-once len e f (inr a, inr (inr p)) (inl b, inl q) = absurd (omega arith)
end-once len e f (inr a, inr (inr p)) (inl b, inr (inl q)) = absurd (omega arith)
end-once len e f (inr a, inr (inr p)) (inl b, inr (inr q)) = absurd (omega arith)

spells-in : (d : Due) (text : List ℕ) → text ≡ due_text d → Spells d text (end_of d)
spells-in d text is = subst (λ (l : List ℕ). Spells d l (end_of d)) (sym is) (spells d)

pub ends : (d : Due) (text : List ℕ) → text ≡ due_text d → CanEnd (length text) (end_of d)
ends d text is = let s = spells-in d text is in (s.end_is, (nominal-at d text (end_of d) s).long)

pub spells-at : (d : Due) (text : List ℕ) (end : ℕ) → text ≡ due_text d → CanEnd (length text) end → Spells d text end
spells-at d text end is can = subst (Spells d text) (end-once (length text) (end_of d) end (ends d text is) can) (spells-in d text is)

pub small : (d : Due) → CanBeDue d → d.second + d.past < 2 ^ 32
small d can = omega (arith, can.0, can.1)

-- the date that is left out is the one shown
pub same-date : (c e : ℕ) → c / 86_400 ≡ e / 86_400 → date_text (civil e).date ≡ date_text (civil c).date
same-date c e days =
    ap date_text (date-civil e ∙ ap (λ (n : ℕ). (date_numbered n).0) (sym days) ∙ sym (date-civil c))

-- ---- no two texts are one

past-once : (d e : Due) → d.second ≡ e.second → d.second + d.past ≡ e.second + e.past → d.offset ≡ e.offset → d ≡ e
past-once d e seconds shown offsets =
    let past : d.past ≡ e.past = omega arith in
    ap (λ (c : ℕ). parts c d.past d.offset) seconds
    ∙ (ap (λ (p : ℕ). parts e.second p d.offset) past ∙ ap (λ (o : Offset). parts e.second e.past o) offsets)

nominal-once : (d e : Due) (text : List ℕ) (end : ℕ) → CanBeDue d → CanBeDue e → d.second + d.past ≡ e.second + e.past → SpellsNominal d text end
    → SpellsNominal e text end → d.second ≡ e.second
nominal-once d e text end can cane shown a b =
    elim a.long [
      | inl none ↦ omega (arith, a.none none, b.none none)
      | inr (inl time) ↦
          let x = a.time time in
          let y = b.time time in
          let days : d.second / 86_400 ≡ e.second / 86_400 = x.0 ∙ ap (λ n. n / 86_400) shown ∙ sym (y.0) in
          second-once d.second e.second (omega (arith, can.0)) (omega (arith, cane.0)) (same-date e.second d.second (sym days)) (sym (x.1) ∙ y.1)
      | inr (inr date) ↦
          second-once d.second e.second (omega (arith, can.0)) (omega (arith, cane.0)) (sym (a.date date) ∙ b.date date)
          (sym (a.date_time date) ∙ b.date_time date)
    ]

pub texts-differ : TextsDiffer
texts-differ d e can cane same =
    let end = end_of d in
    let a = spells d in
    let b = spells-at e (due_text d) end same (ends d (due_text d) refl) in
    let shown = second-once (d.second + d.past) (e.second + e.past) (small d can) (small e cane) (sym a.date ∙ b.date) (sym a.time ∙ b.time) in
    let offsets = offset-once d.offset e.offset (sym a.offset ∙ b.offset) in
    past-once d e (nominal-once d e (due_text d) end can cane shown (nominal-at d (due_text d) end a) (nominal-at e (due_text d) end b)) shown offsets
