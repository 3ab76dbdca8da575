-- The lines of schedules, one after another.
use Rattle.std.proofs.Common.{◌≡◌, ◌+◌, ◌≤◌, ◌<◌, ◌⊎◌, ℕ, ℤ, pos, negsuc, IsSome, Bool, true, false, not, ◌||◌, ◌&&◌, nat_eq, nat_lt, List, [], ◌∷◌, ◌++◌, length, map, cond, sum_by, take, take_all, get_or, Option, Some, None, refl, sym, ap, ◌∙◌, subst, append_assoc, inl, inr, arith}
use Rattle.std.specs.Prelude.{is_some, unwrap_or}
use Rattle.std.proofs.Math.Bool.{and-false}
use Rattle.std.proofs.lemmas.Bool.{and_parts, eq-eqb, eqb-true, false≢true, ne_eqb}
use Rattle.std.proofs.lemmas.List.{length-append, nil_from_length}
use Rattle.std.proofs.lemmas.List.Folds.{list_any-append, list_any_more}
use Rattle.std.proofs.lemmas.List.Sums.{sum_by_more}
use Rattle.std.proofs.lemmas.Grind.{flat_map-append}
use Rattle.std.proofs.lemmas.Option.{slice_get_within}
use Rattle.std.specs.List.{AllByRecursion, flat_map, list_any}
use Rattle.std.specs.Option.{ForSome, option_map}
use Rattle.jiff_core.proofs.SignedLemmas.{signed_arith}
use Rattle.jiff_core.specs.Calendar.{days_in_month}
use Rattle.jiff_core.specs.declared.civil.datetime.DateTime.{DateTime}
use Rattle.cron_moments.specs.Calendar.{weekday_number}
use Rattle.cron_moments.specs.Civil.{civil, seconds_in_range}
use Rattle.cron_units.specs.declared.way.Way.TheVariants.{Ahead}
use Rattle.cron_units.specs.Nearest.{IsNearest}
use Rattle.cron_units.specs.Sets.{Sets}
use Rattle.cron_units.specs.Units.{FieldSet, contains}
use Rattle.cron_time.specs.Matches.{contains_year, has_day, is_match, matches, matches_time}
use Rattle.cron_time.proofs.ListLemmas.{Among}
use Rattle.cron_time.specs.Seconds.{matching_seconds}
use Rattle.cron_time.specs.Timeline.{seconds_of}
use Rattle.cron_dues.proofs.MemberLemmas.{not_both, sets-match}
use Rattle.cron_seconds.proofs.SetLemmas.{passes_in, passes_of}
use Rattle.cron_unions.specs.Unions.{matches_any}
use Rattle.cron_oncalendar.specs.Calendars.{calendar_of, line_matches, parts}
use Rattle.cron_oncalendar.specs.Unions.{IsNever, SaysUnion, last_lines, line_count, never_fires, numbered_lines}
use Rattle.cron_oncalendar.specs.Zones.{is_word, zone_text}
use Rattle.cron_oncalendar.specs.Inner.Pieces.{level, is_day, is_under, matches_by, matches_last, AreLines, IsLine, IsWhole}
use Rattle.cron_oncalendar.specs.Inner.Written.{Pushes}
use Rattle.cron_oncalendar.proofs.ElapseLemmas.{elapses_when_due}
use Rattle.cron_oncalendar.proofs.PartLemmas.{both_true, first_part, under_append}
use Rattle.cron_oncalendar.proofs.PushLemmas.{pushed_on}

-- ---- lines

pub no_lines : (after : List ℕ) (number : ℕ) (test : DateTime → Bool) → number ≡ 0 → ((c : ℕ) → c < seconds_in_range → test (civil c) ≡ false)
    → AreLines after number test []
no_lines after number test e none = record { lines = []; counted = sym e; ended = refl; each = tt; same = λ c less. sym (none c less) }

pub same_lines : (after : List ℕ) (m n : ℕ) (test other : DateTime → Bool) (piece : List ℕ) → m ≡ n → ((dt : DateTime) → test dt ≡ other dt)
    → AreLines after m test piece → AreLines after n other piece
same_lines after m n test other piece c e h =
    record { lines = h.lines; counted = h.counted ∙ c; ended = h.ended; each = h.each; same = λ k less. h.same k less ∙ e (civil k) }

each_append : (P : List ℕ → Type 0) (xs ys : List (List ℕ)) → AllByRecursion P xs → AllByRecursion P ys → AllByRecursion P (xs ++ ys)
each_append P [] ys a b = b
each_append P (x ∷ xs) ys a b = (a.0, each_append P xs ys a.1 b)

either : (a b x y : Bool) → a ≡ x → b ≡ y → (a || b) ≡ (x || y)
either a b x y e f = rw (e, f) refl

-- lines, and then more
lines_on : (after : List ℕ) (m n : ℕ) (test other both : DateTime → Bool) (p q : List ℕ) → ((dt : DateTime) → (test dt || other dt) ≡ both dt)
    → AreLines after m test p → AreLines after n other q → AreLines after (m + n) both (p ++ q)
lines_on after m n test other both p q e a b =
    record {
      lines = a.lines ++ b.lines;
      counted = omega (arith, length-append a.lines b.lines, a.counted, b.counted);
      ended = rw (a.ended, b.ended) (sym (flat_map-append (λ (line : List ℕ). line ++ (after ++ 10 ∷ [])) a.lines b.lines));
      each = each_append IsLine a.lines b.lines a.each b.each;
      same = λ c less.
          list_any-append (line_matches (civil c)) a.lines b.lines ∙ (either _ _ _ _ (a.same c less) (b.same c less) ∙ e (civil c));
    }

pub lines_pushed : (after : List ℕ) (m n number : ℕ) (test other both : DateTime → Bool) (old mid new : List ℕ) → m + n ≡ number
    → ((dt : DateTime) → (test dt || other dt) ≡ both dt) → Pushes (AreLines after m test) old mid → Pushes (AreLines after n other) mid new
    → Pushes (AreLines after number both) old new
lines_pushed after m n number test other both old mid new c e a b =
    record {
      piece = a.piece ++ b.piece;
      pushed = pushed_on old mid new a.piece b.piece a.pushed b.pushed;
      is = subst (λ (k : ℕ). AreLines after k both (a.piece ++ b.piece)) c (lines_on after m n test other both a.piece b.piece e a.is b.is);
    }

-- ---- a schedule

all_false : (a b c d : Bool) → b ≡ false → (((a && b) && c) && d) ≡ false
all_false a b c d e = rw (e, and-false a) refl

-- days of the month without numbers
pub none_numbered : (s : Sets) (days : FieldSet) (count : ℕ) → days ≡ s.days_of_month → count ≡ length days.ordinals → count ≡ 0
    → s.days_of_month.ordinals ≡ []
none_numbered s days count is e z = ap (λ (set : FieldSet). set.ordinals) (sym is) ∙ nil_from_length days.ordinals (sym e ∙ z)

pub unnumbered : (s : Sets) → s.days_of_month.ordinals ≡ [] → (dt : DateTime) → matches_by s false dt ≡ false
unnumbered s none dt = all_false _ _ _ _ (ap (λ (xs : List ℕ). contains xs dt.date.day) none)

pub no_numbered_line : (s : Sets) → s.days_of_month.ordinals ≡ [] → numbered_lines s ≡ 0
no_numbered_line s none = rw none refl

pub one_numbered_line : (s : Sets) (days : FieldSet) (count : ℕ) → days ≡ s.days_of_month → count ≡ length days.ordinals → (count ≡ 0 → ⊥)
    → 1 ≡ numbered_lines s
one_numbered_line s days count is e some =
    let same : length s.days_of_month.ordinals ≡ count = ap (λ (set : FieldSet). length set.ordinals) (sym is) ∙ sym e in
    rw (same, ne_eqb count 0 some) refl

pub last_line : (s : Sets) (mark : Bool) → s.days_of_month.last_day ≡ mark → cond mark 1 0 ≡ last_lines s
last_line s mark e = rw e refl

pub unmarked : (s : Sets) → s.days_of_month.last_day ≡ false → (dt : DateTime) → matches_last s dt ≡ false
unmarked s e dt = rw e refl

pub marked : (s : Sets) → s.days_of_month.last_day ≡ true → (dt : DateTime) → matches_by s true dt ≡ matches_last s dt
marked s e dt = rw e refl

in_two : (front number mark last week time : Bool)
    → ((((front && number) && week) && time) || (mark && (((front && last) && week) && time))) ≡ (((front && (number || (mark && last))) && week) && time)
in_two front number mark last week time = grind arith

-- a schedule matches on days by number and on last days
pub two_lines : (s : Sets) (dt : DateTime) → (matches_by s false dt || matches_last s dt) ≡ matches s dt
unfolding matches
two_lines s dt =
    in_two (contains_year s.years dt.date.year && contains s.months dt.date.month) (is_day s false dt.date) s.days_of_month.last_day (is_day s true dt.date)
    (contains s.days_of_week (weekday_number dt.date)) (matches_time s dt.time)

pub no_line : (s : Sets) → never_fires s ≡ true → line_count s ≡ 0
no_line s e = rw e refl

pub both_lines : (s : Sets) → never_fires s ≡ false → numbered_lines s + last_lines s ≡ line_count s
both_lines s e = rw e refl

-- a set has no number, besides that of the days of the month
abbrev lacks_numbers : Sets → Bool
lacks_numbers s =
    nat_eq (length s.seconds) 0 || nat_eq (length s.minutes) 0 || nat_eq (length s.hours) 0 || nat_eq (length s.months) 0
    || nat_eq (length s.days_of_week) 0 || nat_eq (length s.years) 0

or_parts : (a b : Bool) → (a || b) ≡ false → (a ≡ false) × (b ≡ false)
or_parts true b e = absurd (false≢true (sym e))
or_parts false b e = (refl, e)

nonempty : (xs : List ℕ) → nat_eq (length xs) 0 ≡ false → xs ≡ [] → ⊥
nonempty xs e none = false≢true (sym e ∙ eq-eqb (length xs) 0 (ap (λ (ys : List ℕ). length ys) none))

whole_from : (s : Sets) → lacks_numbers s ≡ false → IsWhole s
whole_from s e =
    let a = or_parts _ _ e in
    let b = or_parts _ _ a.0 in
    let d = or_parts _ _ b.0 in
    let f = or_parts _ _ d.0 in
    let g = or_parts _ _ f.0 in
    record {
      seconds = nonempty s.seconds g.0;
      minutes = nonempty s.minutes g.1;
      hours = nonempty s.hours f.1;
      months = nonempty s.months d.1;
      days_of_week = nonempty s.days_of_week b.1;
      years = nonempty s.years a.1;
    }

or_true : (a b : Bool) (P : Type 0) → (a ≡ true → P) → (b ≡ true → P) → (a || b) ≡ true → P
or_true true b P f g e = f refl
or_true false b P f g e = g e

none_in : (xs : List ℕ) (x : ℕ) → nat_eq (length xs) 0 ≡ true → contains xs x ≡ false
none_in [] x e = refl
none_in (y ∷ ys) x e = let none : length (y ∷ ys) ≡ 0 = eqb-true (length (y ∷ ys)) 0 e in absurd (omega arith)

no_year : (xs : List ℕ) (y : ℤ) → nat_eq (length xs) 0 ≡ true → contains_year xs y ≡ false
no_year xs (pos y) e = none_in xs y e
no_year xs (negsuc y) e = refl

seven : (y m d w h n s : Bool) → (y ≡ false) ⊎ (m ≡ false) ⊎ (w ≡ false) ⊎ (h ≡ false) ⊎ (n ≡ false) ⊎ (s ≡ false)
    → ((((y && m) && d) && w) && ((h && n) && s)) ≡ false
seven y m d w h n s e = grind arith

-- nothing matches a schedule of which a set is empty
none_matched : (s : Sets) → lacks_numbers s ≡ true → (dt : DateTime) → matches s dt ≡ false
unfolding matches
none_matched s e dt =
    let none = seven (contains_year s.years dt.date.year) (contains s.months dt.date.month)
    (has_day s.days_of_month (days_in_month dt.date.year dt.date.month) dt.date.day)
    (contains s.days_of_week (weekday_number dt.date)) (contains s.hours dt.time.hour) (contains s.minutes dt.time.minute)
    (contains s.seconds dt.time.second) in
    or_true _ _ _
    (or_true _ _ _
    (or_true _ _ _
    (or_true _ _ _
    (or_true _ _ _
    (λ h. none (inr (inr (inr (inr (inr (none_in s.seconds dt.time.second h)))))))
    (λ h. none (inr (inr (inr (inr (inl (none_in s.minutes dt.time.minute h))))))))
    (λ h. none (inr (inr (inr (inl (none_in s.hours dt.time.hour h)))))))
    (λ h. none (inr (inl (none_in s.months dt.date.month h)))))
    (λ h. none (inr (inr (inl (none_in s.days_of_week (weekday_number dt.date) h))))))
    (λ h. none (inl (no_year s.years dt.date.year h))) e

-- ---- what never fires

empty_length : (xs : List ℕ) → ((x : ℕ) → Among xs x → ⊥) → length xs ≡ 0
empty_length [] none = refl
empty_length (x ∷ xs) none = absurd (none x (0, refl))

never_of : (s : Sets) → ((c : ℕ) → matches s (civil c) ≡ false) → never_fires s ≡ true
never_of s none =
    eq-eqb (length (matching_seconds (seconds_of s))) 0
    (empty_length (matching_seconds (seconds_of s)) (λ c there. not_both (matches s (civil c)) (passes_of c (matches s (civil c)) ((sets-match (seconds_of s)).passing c there)) (none c)))

-- as a search from the first civil second on finds
pub never_found : (s : Sets) (found : Option ℕ) (never : Bool) → IsNearest Ahead (is_match s) (pos 0) found → is_some found ≡ not never
    → never ≡ never_fires s
never_found s None false near e = absurd (false≢true e)
never_found s (Some n) true near e = absurd (false≢true (sym e))
never_found s None true none e =
    sym (eq-eqb (length (matching_seconds (seconds_of s))) 0
    (empty_length (matching_seconds (seconds_of s)) (λ c there. not_both (is_match s c) ((sets-match (seconds_of s)).passing c there) (none c (omega (arith, signed_arith))))))
never_found s (Some n) false near e =
    let there = (sets-match (seconds_of s)).among n near.passes in
    sym (ne_eqb (length (matching_seconds (seconds_of s))) 0 (λ empty. let less = slice_get_within (matching_seconds (seconds_of s)) there.0 n there.1 in omega arith))

isnt_true : (b : Bool) → (b ≡ true → ⊥) → b ≡ false
isnt_true true h = absurd (h refl)
isnt_true false h = refl

pub none_matching : (s : Sets) → never_fires s ≡ true → (c : ℕ) → c < seconds_in_range → matches s (civil c) ≡ false
none_matching s never c less =
    isnt_true (matches s (civil c)) (λ match.
    let there = (sets-match (seconds_of s)).among c (passes_in c (matches s (civil c)) less match) in
    let within = slice_get_within (matching_seconds (seconds_of s)) there.0 c there.1 in
    let none : length (matching_seconds (seconds_of s)) ≡ 0 = eqb-true (length (matching_seconds (seconds_of s))) 0 never in omega arith)

pub whole_where_it_fires : (s : Sets) → never_fires s ≡ false → IsWhole s
whole_where_it_fires s e =
    whole_from s (isnt_true (lacks_numbers s) (λ lacks. not_both (never_fires s) (never_of s (λ c. none_matched s lacks (civil c))) e))

-- ---- a union

pub one_more : (after : List ℕ) (ss : List Sets) (i : ℕ) (old mid new : List ℕ) (s : Sets) → i < length ss → s ≡ get_or ss i s
    → Pushes (AreLines after (sum_by line_count (take i ss)) (matches_any (take i ss))) old mid
    → Pushes (AreLines after (line_count s) (matches s)) mid new
    → Pushes (AreLines after (sum_by line_count (take (i + 1) ss)) (matches_any (take (i + 1) ss))) old new
one_more after ss i old mid new s less is a b =
    lines_pushed after _ _ _ _ _ _ old mid new
    (sym (sum_by_more line_count ss i s less ∙ ap (λ (t : Sets). sum_by line_count (take i ss) + line_count t) (sym is)))
    (λ dt. sym (list_any_more (λ (t : Sets). matches t dt) ss i s less ∙ ap (λ (t : Sets). matches_any (take i ss) dt || matches t dt) (sym is))) a b

pub all_taken : (after : List ℕ) (ss : List Sets) (i : ℕ) (old new : List ℕ) → length ss ≤ i
    → Pushes (AreLines after (sum_by line_count (take i ss)) (matches_any (take i ss))) old new
    → Pushes (AreLines after (sum_by line_count ss) (matches_any ss)) old new
all_taken after ss i old new g h =
    subst (λ (ts : List Sets). Pushes (AreLines after (sum_by line_count ts) (matches_any ts)) old new) (take_all i ss g) h

-- ---- the text

word_byte_under : (b : ℕ) → (not (nat_eq b 32 || nat_eq b 10)) ≡ true → nat_lt (level b) 6 ≡ true
unfolding level
word_byte_under b h = grind arith

word_under : (text : List ℕ) → is_word text ≡ true → is_under 6 text ≡ true
word_under [] h = refl
word_under (b ∷ bs) h =
    let both = and_parts (not (nat_eq b 32 || nat_eq b 10)) (is_word bs) h in
    both_true (nat_lt (level b) 6) (is_under 6 bs) (word_byte_under b both.0) (word_under bs both.1)

pub named_by_word : {A : Type 0} (f : A → List ℕ) (o : Option A) → ForSome o (λ x. is_word (f x) ≡ true)
    → ForSome (option_map f o) (λ name. is_word name ≡ true)
named_by_word f None h x e = absurd (cc)
named_by_word f (Some a) h x e = subst (λ (n : List ℕ). is_word n ≡ true) (ap (λ o. unwrap_or o (f a)) e) (h a refl)

pub zone_under : (zone : Option (List ℕ)) → ForSome zone (λ name. is_word name ≡ true) → is_under 6 (zone_text zone) ≡ true
unfolding level
zone_under None h = refl
zone_under (Some name) h = word_under name (h name refl)

ended_parts : (after : List ℕ) (lines : List (List ℕ)) → is_under 6 after ≡ true → AllByRecursion IsLine lines
    → parts 10 (flat_map (λ line. line ++ (after ++ 10 ∷ [])) lines) ≡ map (λ line. line ++ after) lines ++ [] ∷ []
unfolding level
ended_parts after [] u a = refl
ended_parts after (line ∷ lines) u a =
    let rest = flat_map (λ (text : List ℕ). text ++ (after ++ 10 ∷ [])) lines in
    ap (parts 10) (append_assoc line (after ++ 10 ∷ []) rest ∙ (ap (λ (t : List ℕ). line ++ t) (append_assoc after (10 ∷ []) rest) ∙ sym (append_assoc line after (10 ∷ rest))))
    ∙ (first_part 10 6 (line ++ after) rest (omega arith) (under_append 6 line after a.0.under u)
    ∙ ap (λ (ls : List (List ℕ)). (line ++ after) ∷ ls) (ended_parts after lines u a.1))

each_read : (lines : List (List ℕ)) → AllByRecursion IsLine lines → AllByRecursion (λ line. IsSome (calendar_of line)) lines
each_read [] a = tt
each_read (line ∷ lines) a = (a.0.read, each_read lines a.1)

some_bytes : (line after rest : List ℕ) → (line ++ (after ++ 10 ∷ [])) ++ rest ≡ [] → ⊥
some_bytes [] [] rest e = absurd (cc)
some_bytes [] (b ∷ after) rest e = absurd (cc)
some_bytes (b ∷ line) after rest e = absurd (cc)

no_bytes : (after : List ℕ) (lines : List (List ℕ)) → flat_map (λ line. line ++ (after ++ 10 ∷ [])) lines ≡ [] → lines ≡ []
no_bytes after [] e = refl
no_bytes after (line ∷ lines) e = absurd (some_bytes line after (flat_map (λ (text : List ℕ). text ++ (after ++ 10 ∷ [])) lines) e)

pub is_empty_text : (text : List ℕ) (len : ℕ) → len ≡ length text → nat_eq len 0 ≡ true → text ≡ []
is_empty_text text len e empty = nil_from_length text (sym e ∙ eqb-true len 0 empty)

pub isnt_empty : (text : List ℕ) (len : ℕ) → len ≡ length text → nat_eq len 0 ≡ false → text ≡ [] → ⊥
isnt_empty text len e some none = false≢true (sym some ∙ eq-eqb len 0 (e ∙ ap (λ (t : List ℕ). length t) none))

-- lines were pushed to an empty text
pub says_union : (ss : List Sets) (zone : Option (List ℕ)) (after old new : List ℕ) → after ≡ zone_text zone
    → ForSome zone (λ name. is_word name ≡ true) → old ≡ [] → (new ≡ [] → ⊥)
    → Pushes (AreLines after (sum_by line_count ss) (matches_any ss)) old new → SaysUnion ss zone new
says_union ss zone after old new z word e some h =
    let is : new ≡ flat_map (λ line. line ++ (after ++ 10 ∷ [])) h.is.lines = h.pushed ∙ (ap (λ (t : List ℕ). t ++ h.piece) e ∙ h.is.ended) in
    let under : is_under 6 after ≡ true = rw z (zone_under zone word) in
    record {
      lines = h.is.lines;
      some = λ none. some (is ∙ ap (λ (ls : List (List ℕ)). flat_map (λ line. line ++ (after ++ 10 ∷ [])) ls) none);
      counted = h.is.counted;
      ended = ap (parts 10) is ∙ (ended_parts after h.is.lines under h.is.each
          ∙ ap (λ (t : List ℕ). map (λ (line : List ℕ). line ++ t) h.is.lines ++ [] ∷ []) z);
      read = each_read h.is.lines h.is.each;
      same = h.is.same;
      elapses = elapses_when_due ss h.is.lines h.is.same;
    }

pub says_never : (ss : List Sets) (after old new : List ℕ) → old ≡ [] → new ≡ []
    → Pushes (AreLines after (sum_by line_count ss) (matches_any ss)) old new → IsNever ss
says_never ss after old new e none h =
    let lines : h.is.lines ≡ [] = no_bytes after h.is.lines (sym (h.pushed ∙ (ap (λ (t : List ℕ). t ++ h.piece) e ∙ h.is.ended)) ∙ none) in
    λ c less. sym (h.is.same c less) ∙ ap (λ (ls : List (List ℕ)). list_any (line_matches (civil c)) ls) lines
