-- Components that are open, the innermost last.
use Rattle.std.proofs.Common.{◌≡◌, ℕ, ◌-◌, true, false, List, [], ◌∷◌, ◌++◌, length, take, map, refl, ap, ◌∙◌, arith, length-append}
use Rattle.std.specs.Prelude.{Some, None, Ok, slice_get}
use Rattle.std.specs.Option.{option_map}
use Rattle.std.proofs.lemmas.List.{length-map, take-map}
use Rattle.std.proofs.lemmas.Option.{slice_get-map}
use Rattle.cron_holidays.specs.Calendars.{Reading, innermost, is_event, outer, with_end_of}
use Rattle.cron_holidays.specs.Calendars as calendars
use Rattle.cron_holidays.specs.Properties.{is_word}
use Rattle.cron_holidays.specs.Views.{open_view}
use Rattle.cron_holidays.specs.declared.calendar.Open.{Open}

last-at : {X : Type 0} (xs : List X) (x : X) → slice_get (xs ++ x ∷ []) (length xs) ≡ Some x
last-at [] x = refl
last-at (y ∷ ys) x = last-at ys x

front-of : {X : Type 0} (xs : List X) (x : X) → take (length xs) (xs ++ x ∷ []) ≡ xs
front-of [] x = refl
front-of (y ∷ ys) x = ap (λ t. y ∷ t) (front-of ys x)

one-less : {X : Type 0} (xs : List X) (x : X) → length (xs ++ x ∷ []) - 1 ≡ length xs
one-less xs x = omega (arith, length-append xs (x ∷ []))

pub innermost-view : (ones : List Open) → innermost (map open_view ones) ≡ option_map open_view (slice_get ones (length ones - 1))
innermost-view ones = rw (length-map ones open_view) (slice_get-map open_view ones (length ones - 1))

-- the innermost component, and the others
pub innermost-last : (ones rest : List Open) (one : Open) → ones ≡ rest ++ one ∷ [] → innermost (map open_view ones) ≡ Some (open_view one)
innermost-last ones rest one is =
    let last : slice_get (rest ++ one ∷ []) (length (rest ++ one ∷ []) - 1) ≡ Some one = rw (one-less rest one) (last-at rest one) in
    innermost-view ones ∙ ap (λ t. option_map open_view (slice_get t (length t - 1))) is ∙ ap (option_map open_view) last

pub outer-last : (ones rest : List Open) (one : Open) → ones ≡ rest ++ one ∷ [] → outer (map open_view ones) ≡ map open_view rest
outer-last ones rest one is =
    let front : outer (map open_view (rest ++ one ∷ [])) ≡ map open_view rest =
    rw (length-map (rest ++ one ∷ []) open_view, one-less rest one, take-map open_view (length rest) (rest ++ one ∷ [])) (ap (map open_view) (front-of rest one)) in
    ap (λ t. outer (map open_view t)) is ∙ front

-- none is open
pub innermost-none : (ones : List Open) → length ones ≡ 0 → innermost (map open_view ones) ≡ None
innermost-none [] none = refl
innermost-none (one ∷ ones) none = absurd (omega arith)

-- a component that is no event ends
pub ends-other : (reading : Reading) (one : calendars.Open) (rest : List calendars.Open) (line : ℕ) (name : List ℕ) → innermost reading.open_ones ≡ Some one → outer reading.open_ones ≡ rest
    → is_word name one.name ≡ true → is_event (length reading.open_ones) one.name ≡ false
    → with_end_of reading (innermost reading.open_ones) line name ≡ Ok (record { open_ones = rest; event = reading.event; days = reading.days })
ends-other reading one rest line name last front same other =
    let ends : with_end_of reading (Some one) line name ≡ Ok (record { open_ones = rest; event = reading.event; days = reading.days }) = rw (same, other, front) refl in
    ap (λ o. with_end_of reading o line name) last ∙ ends
