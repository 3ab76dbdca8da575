-- What an item denotes, as the code finds it: its first and last ordinal and a step, or the first test that fails. These are
-- words of inner functions and of computations on written items; `Denoting` proves that they say what `Denotation` says.
use Rattle.std.specs.Prelude.{ℕ, Bool, true, false, ◌||◌, ◌==◌, List, [], ◌∷◌, Option, Some, None, Result, Ok, Err, nat_lt, if◌then◌else◌}
use Rattle.cron_units.specs.Items.{Base, every, question_mark, single, number_range, name_range, Item, plain, stepped, name}
use Rattle.cron_units.specs.Refusals.{Refusal, unknown_name, too_small, too_large, bad_range, bad_name_range, zero_step, large_step}
use Rattle.cron_units.specs.Steps.{Progression, in_steps}
use Rattle.cron_units.specs.Units.{TimeUnit, FieldSet, set_of, ordinal_of, means_last_day}

-- what an item denotes: ordinals by steps, or the last day of the month
pub data Denoted : Type 0 where
  by_steps : Progression → Denoted
  the_last_day : Denoted

-- the ordinal of a name, or the refusal of an unknown name
abbrev pub found_name : List ℕ → Option ℕ → Result ℕ Refusal
found_name word None = Err (unknown_name word)
found_name word (Some n) = Ok n

abbrev pub ordinal : TimeUnit → List ℕ → Result ℕ Refusal
ordinal u word = found_name word (ordinal_of u word)

-- from the first name to the second: the first is looked up first
abbrev pub name_ends : List ℕ → List ℕ → Result ℕ Refusal → Result ℕ Refusal → Result (ℕ × ℕ) Refusal
name_ends v w (Err r) _ = Err r
name_ends v w (Ok a) (Err r) = Err r
name_ends v w (Ok a) (Ok b) = if nat_lt b a then Err (bad_name_range v w) else Ok (a, b)

-- the first and the last ordinal of a base, or why the base is refused
abbrev pub ends : TimeUnit → Base → Result (ℕ × ℕ) Refusal
ends u every = Ok (u.least, u.greatest)
ends u question_mark = Ok (u.least, u.greatest)
ends u (single n) =
    if nat_lt n u.least then Err (too_small n) else if nat_lt u.greatest n then Err (too_large n) else Ok (n, n)
ends u (number_range a b) =
    if nat_lt a u.least || nat_lt u.greatest b || nat_lt b a then Err (bad_range a b) else Ok (a, b)
ends u (name_range v w) = name_ends v w (ordinal u v) (ordinal u w)

-- where steps from a base end: those from one number go on to the greatest ordinal
abbrev pub end_of : TimeUnit → Base → ℕ → ℕ
end_of u (single n) last = u.greatest
end_of u _ last = last

abbrev pub every_nth : TimeUnit → Base → ℕ → Result (ℕ × ℕ) Refusal → Result Progression Refusal
every_nth u b n (Err r) = Err r
every_nth u b n (Ok p) = Ok (record { first = p.0; last = end_of u b p.1; every = n })

abbrev pub each_of : Result (ℕ × ℕ) Refusal → Result Progression Refusal
each_of (Err r) = Err r
each_of (Ok p) = Ok (record { first = p.0; last = p.1; every = 1 })

abbrev pub one_ordinal : Result ℕ Refusal → Result Progression Refusal
one_ordinal (Err r) = Err r
one_ordinal (Ok n) = Ok (record { first = n; last = n; every = 1 })

-- the steps of an item: with a step, the tests come in the order step zero, step too large, base
abbrev pub steps_of : TimeUnit → Item → Result Progression Refusal
steps_of u (plain b) = each_of (ends u b)
steps_of u (stepped b n) =
    if n == 0 then Err zero_step else if nat_lt u.greatest n then Err (large_step n) else every_nth u b n (ends u b)
steps_of u (name word) = one_ordinal (ordinal u word)

-- the item is the unit's word for the last day of the month
abbrev pub names_last_day : TimeUnit → Item → Bool
names_last_day u (name word) = means_last_day u word
names_last_day u _ = false

abbrev pub of_steps : Result Progression Refusal → Result Denoted Refusal
of_steps (Err r) = Err r
of_steps (Ok s) = Ok (by_steps s)

-- what an item denotes, or why it is refused
abbrev pub denoted_by : TimeUnit → Item → Result Denoted Refusal
denoted_by u item = if names_last_day u item then Ok the_last_day else of_steps (steps_of u item)

-- x is one of the ordinals that are denoted
abbrev pub in_denoted : Denoted → ℕ → Bool
in_denoted (by_steps s) x = in_steps s x
in_denoted the_last_day x = false

-- the last day of the month is denoted
abbrev pub is_last_day : Denoted → Bool
is_last_day (by_steps s) = false
is_last_day the_last_day = true

-- x is one of the ordinals that an item denotes; a refused item denotes none
abbrev pub denoted_has : ℕ → Result Denoted Refusal → Bool
denoted_has x (Ok d) = in_denoted d x
denoted_has x (Err r) = false

-- an item denotes the last day of the month
abbrev pub denoted_marks : Result Denoted Refusal → Bool
denoted_marks (Ok d) = is_last_day d
denoted_marks (Err r) = false

-- the first refusal: of this item, or else `more`, the first one of the items after it
abbrev pub first_refusal : Result Denoted Refusal → Option Refusal → Option Refusal
first_refusal (Err r) more = Some r
first_refusal (Ok d) more = more

abbrev pub refusal_of : TimeUnit → List Item → Option Refusal
refusal_of u [] = None
refusal_of u (i ∷ is) = first_refusal (denoted_by u i) (refusal_of u is)

-- x is one of the ordinals that the items denote
abbrev pub in_items : TimeUnit → List Item → ℕ → Bool
in_items u [] x = false
in_items u (i ∷ is) x = denoted_has x (denoted_by u i) || in_items u is x

-- one of the items denotes the last day of the month
abbrev pub items_mark : TimeUnit → List Item → Bool
items_mark u [] = false
items_mark u (i ∷ is) = denoted_marks (denoted_by u i) || items_mark u is

-- the set that the items denote together
abbrev pub union_of : TimeUnit → List Item → FieldSet
union_of u items = record { ordinals = set_of u (in_items u items); last_day = items_mark u items }
