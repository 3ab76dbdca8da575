-- What the arguments of a command line mean.
use Rattle.std.specs.Prelude.{◌≡◌, ◌<◌, ◌^◌, ℕ, Bool, true, false, List, [], ◌∷◌, length, codes, Ok, IsOk}
use Rattle.std.specs.Str.{all_ascii_digits}
use Rattle.std.specs.Str.Parse.{digits_value}
use Rattle.jiff.specs.Words.{plain_zone, parse_timestamp}
use Rattle.cron_moments.specs.Zones.{NamesZone, IsZoneOf}
use Rattle.cron_walk_listing.specs.declared.arguments.Request.{Request}

-- the argument is one digit or more, and nothing else, and its number fits 32 bits
abbrev pub IsCount : List ℕ → Type 0
IsCount argument = (all_ascii_digits argument ≡ true) × (0 < length argument) × (digits_value 10 argument < 2 ^ 32)

-- the arguments START, ZONE and COUNT can be read
abbrev pub AreReadable : List ℕ → List ℕ → List ℕ → Type 0
AreReadable start zone count = IsOk (parse_timestamp start) × NamesZone zone × IsCount count

-- the request holds what these arguments mean
pub record IsRead (expression start zone count : List ℕ) (back : Bool) (r : Request) : Type 0 where
  pub expression_is : r.expression.now ≡ expression
  pub start_is : parse_timestamp start ≡ Ok r.start.nanosecond
  pub zone_is : IsZoneOf zone (plain_zone r.zone)
  pub count_is : r.count ≡ digits_value 10 count
  pub back_is : r.back ≡ back

-- there are four arguments, or five of which the last is `back`, and they can be read
abbrev pub IsReadable : List (List ℕ) → Type 0
IsReadable (expression ∷ (start ∷ (zone ∷ (count ∷ [])))) = AreReadable start zone count
IsReadable (expression ∷ (start ∷ (zone ∷ (count ∷ (last ∷ []))))) = (last ≡ codes "back") × AreReadable start zone count
IsReadable arguments = ⊥

-- the request holds what four or five arguments mean
abbrev pub Asks : List (List ℕ) → Request → Type 0
Asks (expression ∷ (start ∷ (zone ∷ (count ∷ [])))) r = IsRead expression start zone count false r
Asks (expression ∷ (start ∷ (zone ∷ (count ∷ (last ∷ []))))) r = IsRead expression start zone count true r
Asks arguments r = ⊥
