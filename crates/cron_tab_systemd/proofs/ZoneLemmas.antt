-- Zones of calendars.
use Rattle.std.proofs.Common.{◌≡◌, ℕ, ◌<◌, ◌==◌, true, not, List, [], ◌∷◌, length, refl, subst, inl, inr, arith}
use Rattle.std.specs.Prelude.{◌||◌, Option, Err}
use Rattle.std.specs.List.{list_all}
use Rattle.std.specs.Str.{IsUtf8}
use Rattle.cron_tab_systemd.specs.Zones.{IsWordOf, IsZoneOf, is_zone_byte, said_by, unsaid_zone}
use Rattle.cron_oncalendar.specs.Zones.{is_word}
use Rattle.cron_systemd.proofs.TestLemmas.{all_pass, other}

pub zone_read : (asked word : Option (List ℕ)) (value text : List ℕ) → 0 < length value → text ≡ value → IsWordOf text word → IsZoneOf asked value (said_by word)
zone_read asked word [] text some same is = absurd (omega arith)
zone_read asked word (c ∷ cs) text some same is = inl (word, subst (λ t. IsWordOf t word) same is, refl)

pub no_text : (asked : Option (List ℕ)) (value : List ℕ) → 0 < length value → (IsUtf8 value → ⊥) → IsZoneOf asked value (Err unsaid_zone)
no_text asked [] some none = absurd (omega arith)
no_text asked (c ∷ cs) some none = inr (none, refl)

zone_byte : (c : ℕ) → is_zone_byte c ≡ true → not (c == 32 || c == 10) ≡ true
zone_byte c is = rw (other is_zone_byte c 32 is refl, other is_zone_byte c 10 is refl) refl

-- a zone's name is one word
pub one_word : (name : List ℕ) → list_all is_zone_byte name ≡ true → is_word name ≡ true
one_word name all = all_pass is_zone_byte (λ c. not (c == 32 || c == 10)) zone_byte name all
