-- A star that is a whole field.
use Rattle.std.proofs.Common.{◌≡◌, ℕ, Bool, ◌+◌, ◌<◌, false, true, List, [], ◌∷◌, Some, length, get_or, drop, refl, sym, ap, ◌∙◌}
use Rattle.cron_units.specs.Units.{TimeUnit, with_mark}
use Rattle.cron_units.specs.Denotation.{AddsItem}
use Rattle.cron_text.specs.Fault.{TakesField}
use Rattle.cron_text.specs.Fields.{every, plain, is_wildcard}
use Rattle.cron_text.specs.Inner.FieldReading.{FieldState, field_at, furthest, lone_item}
use Rattle.cron_text.specs.Inner.Places.{IsPlace, IsLoneStar, token_between, tokens_from}
use Rattle.cron_text.specs.Tokens.{Token, tokens, symbol_of, sign_of, star, is_digit, is_letter}
use Rattle.cron_text.specs.declared.tokens.Place.{Place}
use Rattle.cron_units.proofs.DenotedSets.{denotes_none, denotes_push}
use Rattle.cron_text.proofs.FieldSets.{read_first, field_taken}
use Rattle.cron_text.proofs.Places.{gap_token, lone_symbol, place_front, sign_token, symbol_spaced}

pub lone_star : (text : List ℕ) (p next : Place) → p.at < length text → IsPlace text p → get_or text p.at 0 ≡ 42
    → tokens_from text next ≡ tokens (drop (p.at + 1) text)
    → ((u : TimeUnit) (s : FieldState) → is_wildcard (symbol_of s.last) ≡ true → furthest u s (tokens_from text next) ≡ (s, tokens_from text next))
    → IsLoneStar text p next
lone_star text p next l h e same stuck =
    let t = token_between text p.at (p.at + 1) in
    let digit : is_digit (get_or text p.at 0) ≡ false = rw e refl in
    let letter : is_letter (get_or text p.at 0) ≡ false = rw e refl in
    let sign : sign_of (get_or text p.at 0) ≡ star = rw e refl in
    let seen : symbol_of (record t { spaced = p.spaced }) ≡ star = symbol_spaced p.spaced t ∙ (sym (lone_symbol text p.at l digit letter) ∙ sign) in
    record {
      token = record t { spaced = p.spaced };
      symbol = seen;
      rest = gap_token p.spaced t _ _ refl (sign_token text p.at l (place_front text p h l) digit letter)
          ∙ ap (λ (ts : List Token). record t { spaced = p.spaced } ∷ ts) (sym same);
      alone = λ u s is. stuck u s (ap (λ (x : Token). is_wildcard (symbol_of x)) is ∙ ap is_wildcard seen);
    }

-- Such a star is the longest field, with one item.
pub star_taken : (u : TimeUnit) (text : List ℕ) (p next : Place) (none xs : List ℕ) (m n : Bool)
    → IsLoneStar text p next → none ≡ [] → m ≡ false → AddsItem u (plain every) (with_mark none m) (with_mark xs n)
    → TakesField u (tokens_from text p) (with_mark xs n) (tokens_from text next)
star_taken u text p next none xs m n h e f added =
    let state : FieldState = record { done = []; item = plain every; last = h.token } in
    let lone : lone_item u (symbol_of h.token) ≡ Some (plain every) = ap (lone_item u) h.symbol in
    let read : field_at u (tokens_from text p) ≡ Some (state, tokens_from text next) =
    ap (field_at u) h.rest ∙ (read_first u h.token (tokens_from text next) (plain every) lone ∙ ap Some (h.alone u state refl)) in
    field_taken u (tokens_from text p) (tokens_from text next) state _ read (denotes_push u [] (plain every) _ _ (denotes_none u none m e f) added)
