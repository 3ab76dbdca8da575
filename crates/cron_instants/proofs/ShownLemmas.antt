-- The first item by what a clock shows.
use Rattle.std.proofs.Common.{◌≡◌, ℕ, ◌≤◌, ℤ, pos, ◌+ℤ◌, ◌-ℤ◌, ◌≤ℤ◌, ◌<ℤ◌, true, false, Option, Some, None, inl, inr, sym, ap, ◌∙◌, arith}
use Rattle.std.specs.Option.{IfSome}
use Rattle.std.proofs.lemmas.Bool.{both_ways}
use Rattle.std.proofs.lemmas.Int.{by_lt_z}
use Rattle.jiff_core.proofs.SignedLemmas.{signed_arith}
use Rattle.jiff_core.specs.declared.Offset.{Offset}
use Rattle.jiff_tz.specs.declared.timezone.TimeZone.{TimeZone}
use Rattle.cron_units.specs.declared.way.Way.TheVariants.{Ahead}
use Rattle.cron_units.specs.Nearest.{IsNearest}
use Rattle.cron_time.specs.Seconds.{Seconds, is_match}
use Rattle.cron_moments.specs.Civil.{seconds_in_range}
use Rattle.cron_moments.specs.Readings.{Reading, instant}
use Rattle.cron_time.proofs.TimelineLemmas.{readings-second}
use Rattle.cron_clocks.specs.Clocks.{IsKeptUpTo, LookupsAgree, shown_offset}
use Rattle.cron_clocks.specs.declared.clock.Kept.{Kept}
use Rattle.cron_instants.specs.Beyond.{IsBest, IsBeyond, Stands}
use Rattle.cron_instants.specs.Inner.Shown.{HasNone, IsFirstShown, IsFrom, IsItemIn, IsShownAt}
use Rattle.cron_instants.proofs.AgreementLemmas.{same_offset, same_reading}
use Rattle.cron_instants.proofs.BestLemmas.{best_of_more}
use Rattle.cron_seconds.proofs.SetLemmas.{match_in_range}
use Rattle.cron_instants.proofs.OrderLemmas.{before-true, before-less, before-not_less, before-not_shared}

pub if_some : {A : Type 0} {P Q : A → Type 0} → ((x : A) → P x → Q x) → (o : Option A) → IfSome o P → IfSome o Q
if_some f None h = tt
if_some f (Some x) h = f x h

-- no civil second from one number on, and before another, matches
abbrev NoMatch : Seconds → ℤ → ℤ → Type 0
NoMatch s low high = (k : ℕ) → low ≤ℤ pos k → pos k <ℤ high → is_match s k ≡ false

no_match_none : (s : Seconds) (low high : ℤ) → IsNearest Ahead (is_match s) low None → NoMatch s low high
no_match_none s low high none = λ k from to. none k from

no_match_before : (s : Seconds) (low : ℤ) (n : ℕ) → IsNearest Ahead (is_match s) low (Some n) → NoMatch s low (pos n)
no_match_before s low n next = λ k from to. next.nearest k from (omega (arith, signed_arith))

module _ (s : Seconds) (z : TimeZone) (agree : LookupsAgree z) where
  shown_at : (q : Reading) → Stands s z q → IsShownAt z q
  shown_at q st = agree.readings_shown q.second st.place q (match_in_range s q.second st.matching) st.here

  -- what a clock shows from an instant on, up to another, lies among civil seconds none of which matches
  none_among : (a b low high : ℤ) → NoMatch s low high
      → ((q : Reading) → IsShownAt z q → a ≤ℤ instant q → instant q <ℤ b → (low ≤ℤ pos q.second) × (pos q.second <ℤ high)) → HasNone s z a b
  none_among a b low high none among = λ q st from to.
      let there = among q (shown_at q st) from to in
      both_ways (is_match s q.second) (none q.second there.0 there.1) st.matching

  -- the first that a clock shows is the first item
  best_at : (a : ℤ) (r : Reading) → is_match s r.second ≡ true → IsShownAt z r → a ≤ℤ instant r → HasNone s z a (instant r)
      → IsBest Ahead (IsFrom s z a) (Some r)
  best_at a r matching shown from none =
      let found = agree.shown_read r.second (instant r) (match_in_range s r.second matching) (omega (arith, signed_arith, shown)) in
      let q = found.at_place in
      let is = found.is in
      let second : q.second ≡ r.second = readings-second z r.second found.place q found.here in
      let offset : q.offset.seconds ≡ r.offset.seconds = omega (arith, signed_arith, is, second) in
      let same = same_reading q r second (same_offset q.offset r.offset offset) in (
        (record { matching = matching; place = found.place; here = found.here ∙ ap Some same }, from),
        λ p m. by_lt_z (instant p) (instant r)
            (λ less. absurd (none p m.0 m.1 less))
            (λ ge. by_lt_z (instant r) (instant p)
            (λ more. before-not_less (instant p) p.second (instant r) r.second more)
            (λ le. let equal : instant p ≡ instant r = omega (arith, signed_arith) in
            let there = shown_at p m.0 in
            let offsets : p.offset.seconds ≡ r.offset.seconds = sym there ∙ ap (shown_offset z) equal ∙ shown in
            let seconds : r.second ≤ p.second = omega (arith, signed_arith, equal, offsets) in
            before-not_shared (instant p) p.second (instant r) r.second equal seconds)),
      )

  -- ---- while a clock keeps its offset

  module _ (a : ℤ) (kept : Kept) (keeps : IsKeptUpTo z a kept.end kept.offset.seconds) (next : Option ℕ)
      (nearest : IsNearest Ahead (is_match s) (a +ℤ kept.offset.seconds) next) where
    offset_in : (q : Reading) → IsShownAt z q → a ≤ℤ instant q → instant q <ℤ pos kept.end → q.offset.seconds ≡ kept.offset.seconds
    offset_in q shown from to = sym shown ∙ keeps.shown (instant q) from to

    -- ---- and keeps it long

    module _ (long : (a +ℤ pos 187_200) ≤ℤ pos kept.end) where
      from_on : (q : Reading) → IsShownAt z q → a ≤ℤ instant q → (a +ℤ kept.offset.seconds) ≤ℤ pos q.second
      from_on q shown from =
          by_lt_z (instant q) (pos kept.end)
          (λ less. let own : q.offset.seconds ≡ kept.offset.seconds = offset_in q shown from less in omega (arith, signed_arith, own, from))
          (λ ge. let near = q.offset.in_range in let far = kept.offset.in_range in omega (arith, signed_arith, near, far, ge, long))

      pub best_none : next ≡ None → IsBest Ahead (IsFrom s z a) None
      best_none is = λ q m.
          let none = rw is at nearest in
          both_ways (is_match s q.second) (none q.second (from_on q (shown_at q m.0) m.1)) m.0.matching

      pub best_far : (r : Reading) → next ≡ Some r.second → IsItemIn kept next None → IsFirstShown z r → IsBest Ahead (IsFrom s z a) (Some r)
      best_far r is item first =
          let found = rw is at nearest in
          let late = rw is at item in
          let near = r.offset.in_range in
          let far = kept.offset.in_range in
          let from : a ≤ℤ instant r = omega (arith, signed_arith, late, near, far, long) in
          best_at a r found.passes first.shown from
          (none_among a (instant r) (a +ℤ kept.offset.seconds) (pos r.second) (no_match_before s _ r.second found)
          (λ q shown low high. let less = first.first q shown high in (from_on q shown low, omega (arith, signed_arith, less))))

-- ---- where a clock shows a civil second first

abbrev value : ℕ → Option ℕ → ℕ
value d None = d
value d (Some n) = n

pub first_there : (z : TimeZone) (c : ℕ) (kept : Kept) (r : Reading) → IsKeptUpTo z (pos c -ℤ pos 93_599) kept.end kept.offset.seconds
    → IsItemIn kept (Some c) (Some r) → (r.second ≡ c) × IsFirstShown z r
first_there z c kept r keeps item =
    let second : r.second ≡ c = sym (ap (value 0) item.0) in
    let offset : r.offset.seconds ≡ kept.offset.seconds = ap (λ (o : Offset). o.seconds) item.1 in
    let near = kept.offset.in_range in
    let from : (pos c -ℤ pos 93_599) ≤ℤ instant r = omega (arith, signed_arith, second, offset, near) in (
      second,
      record {
        shown = keeps.shown (instant r) from item.2 ∙ sym offset;
        first = λ q shown before.
            by_lt_z (instant q) (pos c -ℤ pos 93_599)
            (λ less. let close = q.offset.in_range in omega (arith, signed_arith, less, close, second))
            (λ ge. let own : q.offset.seconds ≡ kept.offset.seconds = sym shown ∙ keeps.shown (instant q) ge (omega (arith, signed_arith, before, item.2)) in
            omega (arith, signed_arith, own, offset, before));
      },
    )

-- ---- from a later instant on, and beyond a mark

pub best_on : (s : Seconds) (z : TimeZone) (a b : ℤ) (best : Option Reading) → a ≤ℤ b → HasNone s z a b → IsBest Ahead (IsFrom s z b) best
    → IsBest Ahead (IsFrom s z a) best
best_on s z a b best le none found =
    best_of_more Ahead (IsFrom s z b) (IsFrom s z a) best found
    (λ r m. let from = m.1 in (m.0, omega (arith, signed_arith, from, le)))
    (λ r m. by_lt_z (instant r) b (λ less. absurd (none r m.0 m.1 less)) (λ ge. inl (m.0, ge)))

pub best_beyond : (s : Seconds) (z : TimeZone) (i a : ℤ) (m : ℕ) (best : Option Reading) → a ≡ i +ℤ pos 1 → seconds_in_range ≤ m
    → IsBest Ahead (IsFrom s z a) best → IsBest Ahead (IsBeyond Ahead s z i m) best
best_beyond s z i a m best next high found =
    best_of_more Ahead (IsFrom s z a) (IsBeyond Ahead s z i m) best found
    (λ r p. let from = p.1 in (p.0, before-less i m (instant r) r.second (omega (arith, signed_arith, from, next))))
    (λ r p. let range = match_in_range s r.second p.0.matching in
    elim (before-true i m (instant r) r.second p.1) [
      | inl less ↦ inl (p.0, omega (arith, signed_arith, less, next))
      | inr same ↦ let more = same.1 in absurd (omega arith)
    ])
