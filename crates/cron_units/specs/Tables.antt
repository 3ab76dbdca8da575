-- What contracts see of a unit's table.
use Rattle.std.specs.Prelude.{◌≡◌, ◌&&◌, ℕ, Bool, true, false, Option, Some, None, List, [], ◌∷◌, map, length, get_or, nat_eq, nat_lt, IfSome, if◌then◌else◌}
use Rattle.std.specs.List.{list_all}
use Rattle.std.specs.Option.{option_map}
use Rattle.std.specs.Borrow.{Bor}
use Rattle.cron_units.specs.Keys.{is_letter, key_of, slot_of}
use Rattle.cron_units.specs.Units as units
use Rattle.cron_units.specs.declared.time_unit.names.Names.{Names}
use Rattle.cron_units.specs.declared.time_unit.definition.Definition.{Definition}

abbrev pub ordinals_view : List (Bor (List ℕ) × ℕ) → List (List ℕ × ℕ)
ordinals_view = map (λ e. (e.0.now, e.1))

-- the ordinal of the first name with a key
abbrev pub keyed_in : List (Bor (List ℕ) × ℕ) → ℕ → Option ℕ
keyed_in [] key = None
keyed_in (e ∷ es) key = if nat_eq (key_of e.0.now) key then Some e.1 else keyed_in es key

abbrev pub is_just : Option ℕ → ℕ → Bool
is_just None n = false
is_just (Some m) n = nat_eq m n

-- a name has only letters, its key is below 2^55, and its slot has that key
abbrev pub is_slotted : List (ℕ × ℕ) → ℕ → Bor (List ℕ) × ℕ → Bool
is_slotted slots spread e =
    list_all is_letter e.0.now && nat_lt (key_of e.0.now) 36028797018963968
    && nat_eq (get_or slots (slot_of spread (key_of e.0.now)) (0, 0)).0 (key_of e.0.now)

-- Each name stands in its slot, and each of the 32 slots has a name's key with the ordinal of the name.
abbrev pub are_keyed : Names → Bool
are_keyed n =
    nat_eq (length n.slots.now) 32 && list_all (is_slotted n.slots.now n.spread) n.ordinals.now
    && list_all (λ s. is_just (keyed_in n.ordinals.now s.0) s.1) n.slots.now

abbrev pub names_view : Names → units.Names
names_view n = record { noun = n.noun.now; ordinals = ordinals_view n.ordinals.now }

-- the names of a unit, if it has any, can be found by their keys
abbrev pub AreKeyed : Option Names → Type 0
AreKeyed names = IfSome names (λ n. are_keyed n ≡ true)

abbrev pub definition_view : Definition → units.TimeUnit
definition_view d = record {
  title = d.title.now;
  least = d.least;
  greatest = d.greatest;
  names = option_map names_view d.names;
  question_mark = d.question_mark;
  last_day = option_map (λ name. name.now) d.last_day;
}
