-- Where a call leaves a walk, in either direction.
use Rattle.std.proofs.Common.{◌≡◌, ℕ, zero, suc, ◌+◌, ◌/◌, ◌%◌, ◌<◌, ◌≤◌, ℤ, pos, ◌+ℤ◌, ◌-ℤ◌, ◌≤ℤ◌, Bool, true, false, not, List, [], ◌∷◌, length, Option, Some, None, refl, sym, ap, ◌∙◌, arith, true≢false, is_some}
use Rattle.std.specs.Prelude.{slice_get, option_to_list}
use Rattle.std.proofs.lemmas.Option.{slice_get_cases, slice_get_within, slice_get_past}
use Rattle.std.proofs.Common.{inl, inr, option_map}
use Rattle.std.proofs.lemmas.Bool.{and_parts, cases_Bool}
use Rattle.cron_moments.specs.Civil.{civil}
use Rattle.cron_moments.specs.CivilDates.{date_numbered}
use Rattle.cron_time.specs.Search.Inner.Numbers.{matches_second}
use Rattle.cron_time.specs.Matches.{matches, matches_date}
use Rattle.cron_time.proofs.Searches.StandLemmas.{matches_at}
use Rattle.jiff_core.proofs.SignedLemmas.{signed_arith}
use Rattle.jiff_tz.specs.declared.timezone.TimeZone.{TimeZone}
use Rattle.cron_units.specs.declared.way.Way.{Way}
use Rattle.cron_units.specs.declared.way.Way.TheVariants.{Ahead, Back}
use Rattle.cron_units.specs.Nearest.{LiesFrom, Precedes}
use Rattle.cron_time.specs.Walk.Cursor.{Place, go_to, no_item, step_on}
use Rattle.cron_moments.specs.Found.{found_items}
use Rattle.cron_time.specs.Walk.Inner.Placed.{index, place_of, reading_of, last_is_later, stop_of, IsKept}
use Rattle.cron_moments.specs.Readings.{Reading}
use Rattle.cron_time.specs.Seconds as seconds
use Rattle.cron_time.specs.Search.{items_of, stands, IsFound, IsFoundAt}
use Rattle.cron_units.specs.Sets.{Sets}
use Rattle.cron_time.specs.Walk.Inner.Stop.{IsReached, IsStop}
use Rattle.cron_time.specs.Timeline.{seconds_of, timeline}
use Rattle.cron_time.specs.Search.Inner.Numbers.{beyond}
use Rattle.cron_time.specs.Walk.Ways.{opposite, place_from, place_beside}
use Rattle.cron_moments.specs.declared.readings.Found.{Found}
use Rattle.cron_time.specs.Walk.Inner.Stand.{Stand}
use Rattle.cron_time.specs.Walk.Inner.Stand as Kept
use Rattle.cron_time.proofs.PlaceLemmas.{place_from-at, place_from-none}
use Rattle.cron_time.proofs.TimelineLemmas.{before, before-next, before-all, item_in, items_of-second, stands-high, is_in, early, late}

-- ---- the readings of what was found

-- each is the item at its index
pub reading_of-item : (f : Found) (later : Bool) → slice_get (found_items f) (index later) ≡ reading_of f later
reading_of-item f false = refl
reading_of-item f true = second_item f.first f.second
  where
    second_item : (x : Reading) (o : Option Reading) → slice_get (x ∷ option_to_list o) 1 ≡ o
    second_item x None = refl
    second_item x (Some y) = refl

length_found : (f : Found) → length (found_items f) ≡ index (is_some f.second) + 1
length_found f = by_second f.first f.second
  where
    by_second : (x : Reading) (o : Option Reading) → length (x ∷ option_to_list o) ≡ index (is_some o) + 1
    by_second x None = omega arith
    by_second x (Some y) = omega arith

last-inside : (way : Way) (f : Found) → index (last_is_later way f) < length (found_items f)
last-inside Ahead f = let e = length_found f in omega arith
last-inside Back f = let e = length_found f in omega arith

-- ---- from a place where the walk stands

-- the item there
pub kept_item : (s : Sets) (z : TimeZone) (f : Found) (later : Bool) → IsKept s z f later
    → slice_get (timeline s z) (place_of s z f.first.second later) ≡ reading_of f later
kept_item s z f later k =
    let inside : index later < length (items_of s z f.first.second) = rw k.items k.inside in
    item_in (seconds_of s) z f.first.second (index later) k.high inside ∙ ap (λ xs. slice_get xs (index later)) k.items ∙ reading_of-item f later

-- its place is one of the timeline
pub kept_in : (s : Sets) (z : TimeZone) (f : Found) (later : Bool) → IsKept s z f later → place_of s z f.first.second later < length (timeline s z)
kept_in s z f later k =
    let inside : index later < length (items_of s z f.first.second) = rw k.items k.inside in
    let next = before-next (seconds_of s) z f.first.second in
    let high = k.high in
    let all = before-all (seconds_of s) z (f.first.second + 1) (omega arith) in
    omega arith

-- a place of the timeline holds an item
pub item_there : (xs : List Reading) (k : ℕ) → k < length xs → (x : Reading) × (slice_get xs k ≡ Some x)
item_there [] k lt = absurd (omega arith)
item_there (x ∷ xs) zero lt = (x, refl)
item_there (x ∷ xs) (suc k) lt = item_there xs k (omega arith)

go_to-reading : (items : List Reading) (i : ℕ) (x : Reading) → slice_get items i ≡ Some x → go_to items (Some i) ≡ record { answer = Some x; cursor = Place i }
go_to-reading items i x e = rw e refl

go_to-past : (items : List Reading) (i : ℕ) → length items ≤ i → go_to items (Some i) ≡ no_item
go_to-past items i h = rw (slice_get_past items i h) refl

-- the number beyond a civil second, in the words of the items' numbers
ahead_of : (c d : ℕ) → c < d → (pos c +ℤ pos 1) ≤ℤ pos d
ahead_of c d h = omega (arith, signed_arith)

not_ahead_of : (c d : ℕ) → d ≤ c → ¬ ((pos c +ℤ pos 1) ≤ℤ pos d)
not_ahead_of c d h k = omega (arith, signed_arith)

back_of : (c d : ℕ) → d < c → pos d ≤ℤ (pos c -ℤ pos 1)
back_of c d h = omega (arith, signed_arith)

not_back_of : (c d : ℕ) → c ≤ d → ¬ (pos d ≤ℤ (pos c -ℤ pos 1))
not_back_of c d h k = omega (arith, signed_arith)

-- the items from the number beyond c on begin behind, or end before, the items of c
after_items : (s : Sets) (z : TimeZone) (c : ℕ) → go_to (timeline s z) (Some (before (seconds_of s) z (c + 1)))
    ≡ go_to (timeline s z) (place_from Ahead (timeline s z) (Some (beyond Ahead c)))
after_items s z c =
    let items = timeline s z in
    let n = before (seconds_of s) z (c + 1) in
    elim (slice_get_cases items n).1 [
      | inl there ↦
          let x = there.0 in
          let lies = late (seconds_of s) z n x (c + 1) there.2 (omega arith) in
          ap (go_to items) (sym (place_from-at Ahead (beyond Ahead c) items n x there.2 (ahead_of c x.second (omega arith))
          (λ k y lt at. not_ahead_of c y.second (let below = early (seconds_of s) z k y (c + 1) at lt in omega arith))))
      | inr past ↦
          rw (
            go_to-past items n past.0,
            place_from-none Ahead (beyond Ahead c) items
                (λ k y at. not_ahead_of c y.second (let in_list = slice_get_within items k y at in let below = early (seconds_of s) z k y (c + 1) at (omega arith) in
                omega arith)),
          ) refl
    ]

before_items : (s : Sets) (z : TimeZone) (c n : ℕ) → c ≤ 4_133_980_800 → n ≡ before (seconds_of s) z c
    → go_to (timeline s z) (place_beside Back n) ≡ go_to (timeline s z) (place_from Back (timeline s z) (Some (beyond Back c)))
before_items s z c zero high is =
    ap (go_to (timeline s z)) (sym (place_from-none Back (beyond Back c) (timeline s z)
    (λ k y at. not_back_of c y.second (late (seconds_of s) z k y c at (omega arith)))))
before_items s z c (suc m) high is =
    let items = timeline s z in
    let all = before-all (seconds_of s) z c high in
    let there = item_there items m (omega arith) in
    let lies = early (seconds_of s) z m there.0 c there.1 (omega arith) in
    ap (go_to items) (sym (place_from-at Back (beyond Back c) items m there.0 there.1 (back_of c there.0.second lies)
    (λ k y gt at. not_back_of c y.second (late (seconds_of s) z k y c at (omega arith)))))

-- from the last reading in its direction a call goes to the first item from the number beyond on
pub from_last : (way : Way) (s : Sets) (z : TimeZone) (f : Found) (later : Bool) → IsKept s z f later → later ≡ last_is_later way f
    → step_on (timeline s z) z way (Place (place_of s z f.first.second later))
    ≡ go_to (timeline s z) (place_from way (timeline s z) (Some (beyond way f.first.second)))
from_last Ahead s z f later k last =
    let size = length_found f in
    let next = before-next (seconds_of s) z f.first.second in
    let same : length (items_of s z f.first.second) ≡ length (found_items f) = ap length k.items in
    let at_last : index later ≡ index (is_some f.second) = ap index last in
    let place : place_of s z f.first.second later + 1 ≡ before (seconds_of s) z (f.first.second + 1) = omega arith in
    rw place (after_items s z f.first.second)
from_last Back s z f later k last =
    let high = k.high in
    let at_first : index later ≡ 0 = ap index last in
    before_items s z f.first.second (place_of s z f.first.second later) (omega arith) (omega arith)

-- ---- where a search leads

-- what precedes the first place of a civil second has a civil second that precedes it
precedes : (way : Way) (s : Sets) (z : TimeZone) (f : Found) (k : ℕ) (y : Reading) → items_of s z f.first.second ≡ found_items f
    → Precedes way k (place_of s z f.first.second (last_is_later (opposite way) f)) → slice_get (timeline s z) k ≡ Some y
    → Precedes way y.second f.first.second
precedes Ahead s z f k y items lt at =
    early (seconds_of s) z k y f.first.second at (omega arith)
precedes Back s z f k y items gt at =
    let size = length_found f in
    let next = before-next (seconds_of s) z f.first.second in
    let same : length (items_of s z f.first.second) ≡ length (found_items f) = ap length items in
    let behind = late (seconds_of s) z k y (f.first.second + 1) at (omega arith) in
    omega arith

found_second : (s : Sets) (z : TimeZone) (f : Found) (c : ℕ) → items_of s z c ≡ found_items f → f.first.second ≡ c
found_second s z f c items =
    items_of-second (seconds_of s) z c 0 f.first (ap (λ xs. slice_get xs 0) items)

is_kept : (way : Way) (s : Sets) (z : TimeZone) (f : Found) → stands s z f.first.second ≡ true → items_of s z f.first.second ≡ found_items f
    → IsKept s z f (last_is_later way f)
is_kept way s z f here items = record {
  high = stands-high (seconds_of s) z f.first.second here;
  items = items;
  inside = last-inside way f;
}

-- there is a reading at an index inside
reading_there : (f : Found) (later : Bool) → index later < length (found_items f) → (x : Reading) × (reading_of f later ≡ Some x)
reading_there f later inside =
    let there = item_there (found_items f) (index later) inside in
    (there.0, sym (reading_of-item f later) ∙ there.1)

pub reached_at : (way : Way) (s : Sets) (z : TimeZone) (b : ℤ) (f : Found) → IsFoundAt way s z b (found_items f)
    → IsReached way s z b (Kept.At f (last_is_later (opposite way) f))
reached_at way s z b f h =
    let c = f.first.second in
    let later = last_is_later (opposite way) f in
    let number : c ≡ h.second = found_second s z f h.second h.items in
    let items : items_of s z c ≡ found_items f = ap (items_of s z) number ∙ h.items in
    let here : stands s z c ≡ true = rw number h.nearest.passes in
    let lies : LiesFrom way b c = rw number h.nearest.lies in
    let kept = is_kept (opposite way) s z f here items in
    let there = reading_there f later kept.inside in
    let item = kept_item s z f later kept ∙ there.1 in
    let second : there.0.second ≡ c = items_of-second (seconds_of s) z c (index later) there.0 (ap (λ xs. slice_get xs (index later)) items ∙ reading_of-item f later
    ∙ there.1) in
    let place = place_from-at way b (timeline s z) (place_of s z c later) there.0 item (rw second lies)
    (λ k y before_it at from. true≢false (sym (is_in (seconds_of s) z k y at).stands
    ∙ h.nearest.nearest y.second from (rw (← number) (precedes way s z f k y items before_it at)))) in
    record {
      placed = kept;
      leads = rw (place, there.1) (go_to-reading (timeline s z) (place_of s z c later) there.0 item);
    }

pub reached_none : (way : Way) (s : Sets) (z : TimeZone) (b : ℤ) → ((k : ℕ) → LiesFrom way b k → stands s z k ≡ false) → IsReached way s z b Kept.Ended
reached_none way s z b none = record {
  placed = tt;
  leads =
      ap (go_to (timeline s z)) (place_from-none way b (timeline s z)
      (λ k y at from. true≢false (sym (is_in (seconds_of s) z k y at).stands ∙ none y.second from)));
}

pub reached : (way : Way) (s : Sets) (z : TimeZone) (b : ℤ) (found : Option Found) → IsFound way s z b (option_map found_items found)
    → IsReached way s z b (stop_of way found)
reached way s z b None h = reached_none way s z b h
reached way s z b (Some f) h = reached_at way s z b f h

-- the date of a civil second that is kept matches
kept_parts : (s : Sets) (z : TimeZone) (f : Found) (later : Bool) → IsKept s z f later
    → (matches_date s (date_numbered (f.first.second / 86_400)).0 ≡ true) × (matches_second s (f.first.second % 86_400) ≡ true)
unfolding seconds.items_of
kept_parts s z f later k =
    elim (cases_Bool (matches s (civil f.first.second))) [
      | inl inside ↦ and_parts (matches_date s (date_numbered (f.first.second / 86_400)).0) (matches_second s (f.first.second % 86_400))
          (sym (matches_at s f.first.second) ∙ inside)
      | inr out ↦ let none : items_of s z f.first.second ≡ [] = rw out refl in let e = sym none ∙ k.items in cc
    ]

pub kept_date : (s : Sets) (z : TimeZone) (f : Found) (later : Bool) → IsKept s z f later → matches_date s (date_numbered (f.first.second / 86_400)).0 ≡ true
kept_date s z f later k = (kept_parts s z f later k).0

pub kept_time : (s : Sets) (z : TimeZone) (f : Found) (later : Bool) → IsKept s z f later → matches_second s (f.first.second % 86_400) ≡ true
kept_time s z f later k = (kept_parts s z f later k).1

-- ---- the calls

pub last_stop : (way : Way) (s : Sets) (z : TimeZone) (f : Found) (later : Bool) (state : Stand) → IsKept s z f later → later ≡ last_is_later way f
    → IsReached way s z (beyond way f.first.second) state → IsStop way s z (Place (place_of s z f.first.second later)) state
last_stop way s z f later state k last h = record { placed = h.placed; leads = from_last way s z f later k last ∙ h.leads }

-- the other reading of the same civil second
turned : (way : Way) (s : Sets) (z : TimeZone) (f : Found) (later : Bool) → ¬ (later ≡ last_is_later way f) → IsKept s z f later
    → step_on (timeline s z) z way (Place (place_of s z f.first.second later)) ≡ go_to (timeline s z) (Some (place_of s z f.first.second (not later)))
turned Ahead s z f false h k =
    let e : place_of s z f.first.second false + 1 ≡ place_of s z f.first.second true = omega arith in rw e refl
turned Ahead s z f true h k =
    let size = length_found f in
    let inside = k.inside in
    absurd (both (is_some f.second) h (omega arith))
  where
    both : (b : Bool) → ¬ (true ≡ b) → 1 < index b + 1 → ⊥
    both true g lt = g refl
    both false g lt = omega arith
turned Back s z f true h k =
    let e : place_of s z f.first.second true ≡ suc (place_of s z f.first.second false) = omega arith in rw e refl
turned Back s z f false h k = absurd (h refl)

other-inside : (way : Way) (f : Found) (later : Bool) → ¬ (later ≡ last_is_later way f) → index (not later) < length (found_items f)
other-inside Ahead f true h = let size = length_found f in omega arith
other-inside Ahead f false h = let size = length_found f in some (is_some f.second) h size
  where
    some : (b : Bool) → ¬ (false ≡ b) → length (found_items f) ≡ index b + 1 → 1 < length (found_items f)
    some true g e = omega arith
    some false g e = absurd (g refl)
other-inside Back f true h = let size = length_found f in omega arith
other-inside Back f false h = absurd (h refl)

pub other_stop : (way : Way) (s : Sets) (z : TimeZone) (f : Found) (later : Bool) → IsKept s z f later → ¬ (later ≡ last_is_later way f)
    → IsStop way s z (Place (place_of s z f.first.second later)) (Kept.At f (not later))
other_stop way s z f later k differ =
    let kept : IsKept s z f (not later) = record { high = k.high; items = k.items; inside = other-inside way f later differ } in
    let there = reading_there f (not later) kept.inside in
    record {
      placed = kept;
      leads = turned way s z f later differ k ∙ rw there.1
          (go_to-reading (timeline s z) (place_of s z f.first.second (not later)) there.0 (kept_item s z f (not later) kept ∙ there.1));
    }
