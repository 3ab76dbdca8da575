-- The times of day of sets.
use Rattle.std.proofs.Common.{◌≡◌, ℕ, true, ◌&&◌, inl, inr, List, [], ◌∷◌, map, flat_map, Contains, nat_eq, eqb-true, ap, ◌∙◌, subst, arith}
use Rattle.std.proofs.lemmas.Bool.{and_from, and_parts}
use Rattle.std.proofs.lemmas.List.Elements.{Contains-push, Contains-push_cases, Contains-append_left, Contains-append_right, Contains-append_cases}
use Rattle.std.proofs.lemmas.List.Folds.{list_any_at}
use Rattle.std.proofs.lemmas.Map.Views.{Contains-from_any}
use Rattle.cron_units.specs.Units.{contains}
use Rattle.cron_units.proofs.SetLemmas.{same_eq}
use Rattle.jiff_core.specs.declared.civil.time.Time.{Time}
use Rattle.cron_units.specs.Sets.{Sets}
use Rattle.cron_time.specs.Matches.{matches_time}
use Rattle.cron_time.specs.Search.Times.{TimeOfDay, times_of_day, time_of_day, TimesOfDayMatch}

-- ---- elements of lists

not_in_empty : {A : Type 0} (x : A) → Contains [] x → ⊥
not_in_empty x h = let l = h.1 in omega arith

single_element : {A : Type 0} (y x : A) → Contains (y ∷ []) x → y ≡ x
single_element y x h =
    elim (Contains-push_cases [] y x h) [
      | inl k ↦ absurd (not_in_empty x k)
      | inr e ↦ e
    ]

-- a mapped element is among the mapped ones
mapped_from : {A B : Type 0} (f : A → B) (xs : List A) (x : A) → Contains xs x → Contains (map f xs) (f x)
mapped_from f [] x h = absurd (not_in_empty x h)
mapped_from f (y ∷ xs) x h =
    elim (Contains-append_cases (y ∷ []) xs x h) [
      | inl k ↦ Contains-append_left (f y ∷ []) (map f xs) (f x) (subst (λ z. Contains (f y ∷ []) (f z)) (single_element y x k) (Contains-push [] (f y)))
      | inr k ↦ Contains-append_right (f y ∷ []) (map f xs) (f x) (mapped_from f xs x k)
    ]

-- the element that a mapped one comes from
mapped_to : {A B : Type 0} (f : A → B) (xs : List A) (y : B) → Contains (map f xs) y → (x : A) × Contains xs x × (f x ≡ y)
mapped_to f [] y h = absurd (not_in_empty y h)
mapped_to f (x ∷ xs) y h =
    elim (Contains-append_cases (f x ∷ []) (map f xs) y h) [
      | inl k ↦ (x, Contains-append_left (x ∷ []) xs x (Contains-push [] x), single_element (f x) y k)
      | inr k ↦ let m = mapped_to f xs y k in (m.0, Contains-append_right (x ∷ []) xs m.0 m.1, m.2)
    ]

-- an element of the list that an element gives
flat_from : {A B : Type 0} (f : A → List B) (xs : List A) (x : A) (y : B) → Contains xs x → Contains (f x) y → Contains (flat_map f xs) y
flat_from f [] x y h k = absurd (not_in_empty x h)
flat_from f (a ∷ xs) x y h k =
    elim (Contains-append_cases (a ∷ []) xs x h) [
      | inl i ↦ Contains-append_left (f a) (flat_map f xs) y (rw (single_element a x i) k)
      | inr i ↦ Contains-append_right (f a) (flat_map f xs) y (flat_from f xs x y i k)
    ]

-- the element whose list an element comes from
flat_to : {A B : Type 0} (f : A → List B) (xs : List A) (y : B) → Contains (flat_map f xs) y → (x : A) × Contains xs x × Contains (f x) y
flat_to f [] y h = absurd (not_in_empty y h)
flat_to f (x ∷ xs) y h =
    elim (Contains-append_cases (f x) (flat_map f xs) y h) [
      | inl k ↦ (x, Contains-append_left (x ∷ []) xs x (Contains-push [] x), k)
      | inr k ↦ let m = flat_to f xs y k in (m.0, Contains-append_right (x ∷ []) xs m.0 m.1, m.2)
    ]

-- membership, as a test
member_from : (xs : List ℕ) (x : ℕ) → Contains xs x → contains xs x ≡ true
member_from xs x h = list_any_at (nat_eq x) xs h.0 x h.1 (ap (nat_eq x) h.2 ∙ same_eq x)

member_to : (xs : List ℕ) (x : ℕ) → contains xs x ≡ true → Contains xs x
member_to xs x h = Contains-from_any (λ a b e. eqb-true a b e) x xs h

-- ---- times of day

-- a time of day among these has its parts in their sets
pub among_to : (s : Sets) (x : TimeOfDay) → Contains (times_of_day s) x
    → (contains s.hours x.hour ≡ true) × (contains s.minutes x.minute ≡ true) × (contains s.seconds x.second ≡ true)
unfolding times_of_day
among_to s x k =
    let a = flat_to (λ h. flat_map (λ m. map (λ sec. record { hour = h; minute = m; second = sec }) s.seconds) s.minutes) s.hours x k in
    let b = flat_to (λ m. map (λ sec. record { hour = a.0; minute = m; second = sec }) s.seconds) s.minutes x a.2 in
    let c = mapped_to (λ sec. record { hour = a.0; minute = b.0; second = sec }) s.seconds x b.2 in
    let hour : a.0 ≡ x.hour = ap (λ (y : TimeOfDay). y.hour) c.2 in
    let minute : b.0 ≡ x.minute = ap (λ (y : TimeOfDay). y.minute) c.2 in
    let second : c.0 ≡ x.second = ap (λ (y : TimeOfDay). y.second) c.2 in (
      subst (λ n. contains s.hours n ≡ true) hour (member_from s.hours a.0 a.1),
      subst (λ n. contains s.minutes n ≡ true) minute (member_from s.minutes b.0 b.1),
      subst (λ n. contains s.seconds n ≡ true) second (member_from s.seconds c.0 c.1),
    )

-- the converse
pub among_from : (s : Sets) (h m sec : ℕ) → contains s.hours h ≡ true → contains s.minutes m ≡ true → contains s.seconds sec ≡ true
    → Contains (times_of_day s) (record { hour = h; minute = m; second = sec })
unfolding times_of_day
among_from s h m sec a b c =
    flat_from (λ h. flat_map (λ m. map (λ sec. record { hour = h; minute = m; second = sec }) s.seconds) s.minutes) s.hours h _ (member_to s.hours h a)
    (flat_from (λ m. map (λ sec. record { hour = h; minute = m; second = sec }) s.seconds) s.minutes m _ (member_to s.minutes m b)
    (mapped_from (λ sec. record { hour = h; minute = m; second = sec }) s.seconds sec (member_to s.seconds sec c)))

matching : (s : Sets) (t : Time) → matches_time s t ≡ true → Contains (times_of_day s) (time_of_day t)
matching s t h =
    let both = and_parts (contains s.hours t.hour && contains s.minutes t.minute) (contains s.seconds t.second) h in
    let first = and_parts (contains s.hours t.hour) (contains s.minutes t.minute) both.0 in
    among_from s t.hour t.minute t.second first.0 first.1 both.1

pub times_match : TimesOfDayMatch
times_match s t = (matched, matching s t) where
  matched : Contains (times_of_day s) (time_of_day t) → matches_time s t ≡ true
  matched h =
      let parts = among_to s (time_of_day t) h in
      and_from (contains s.hours t.hour && contains s.minutes t.minute) (contains s.seconds t.second)
      (and_from (contains s.hours t.hour) (contains s.minutes t.minute) parts.0 parts.1) parts.2
