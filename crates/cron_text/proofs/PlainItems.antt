-- Items that are read without tokens of the code.
use Rattle.std.proofs.Common.{◌≡◌, ℕ, ◌+◌, ◌<◌, ◌≤◌, Bool, true, false, ◌&&◌, List, [], ◌∷◌, ◌++◌, Some, length, get_or, drop, refl, sym, ap, ◌∙◌, arith}
use Rattle.std.specs.Option.{option_map}
use Rattle.cron_units.specs.Denotation.{Denotes}
use Rattle.cron_units.specs.Units.{TimeUnit, FieldSet}
use Rattle.cron_text.specs.Fault.{TakesField}
use Rattle.cron_text.specs.Fields.{Base, every, single, number_range, name_range, Item, plain, stepped, name, is_wildcard}
use Rattle.cron_text.specs.Inner.FieldReading.{FieldState, joined, field_at, furthest, lone_item, with_end, with_step}
use Rattle.cron_text.specs.Inner.Places.{IsTokenAt, NoConnector, token_between, tokens_from}
use Rattle.cron_text.specs.Inner.PlainReading.{IsSymbolAt, IsBehind, IsItemAt, IsAddedAt}
use Rattle.cron_text.specs.Inner.Views.{connector_view, symbol_view}
use Rattle.cron_text.specs.Tokens.{Token, Symbol, tokens, symbol_of, sign_of, number, word, star, is_space, is_digit, is_letter}
use Rattle.cron_text.specs.declared.field_texts.Connector.{Connector}
use Rattle.cron_text.specs.declared.field_texts.Connector.TheVariants.{Comma, Dash, Slash}
use Rattle.cron_text.specs.declared.symbols.Symbol as code
use Rattle.cron_text.specs.declared.tokens.Place.{Place}
use Rattle.cron_units.proofs.DenotedSets.{denotes_push}
use Rattle.cron_text.proofs.FieldSets.{read_first, field_taken}
use Rattle.cron_text.proofs.Growing.{grows_on, stays_alone}
use Rattle.cron_text.proofs.Places.{connector_here, gap_token, lone_symbol, sign_token, symbol_spaced}

not_spaced : (a b : Bool) → b ≡ false → (a && b) ≡ false
not_spaced true b h = h
not_spaced false b h = refl

-- a field goes on with a connector and a token, between which no white space stands
goes_on : (u : TimeUnit) (text : List ℕ) (at : ℕ) (s t : FieldState) (k : Connector) (x : Token) (more : List Token) → at < length text
    → is_space (get_or text at 0) ≡ false → connector_view k ≡ sign_of (get_or text at 0) → tokens (drop (at + 1) text) ≡ x ∷ more → x.spaced ≡ false
    → joined u s (connector_view k) x ≡ Some t → furthest u s (tokens (drop at text)) ≡ furthest u t more
goes_on u text at s t k x more l front sign h apart j =
    let p : Place = record { at = at; spaced = false } in
    let c = connector_here text p k l front sign in
    let all : tokens (drop at text) ≡ c.token ∷ x ∷ more = c.rest ∙ ap (λ (ts : List Token). c.token ∷ ts) h in
    ap (furthest u s) all ∙ grows_on u s t c.token x more k c.symbol (not_spaced (is_wildcard (symbol_of s.last)) c.token.spaced (sym c.spaced))
    (not_spaced (is_wildcard (symbol_of x)) x.spaced apart) j

-- ---- one item

pub item_alone : (u : TimeUnit) (text : List ℕ) (at : ℕ) (symbol : Symbol) (end : ℕ) (i : Item) → IsSymbolAt text at symbol end
    → lone_item u symbol ≡ Some i → IsItemAt u text at i end
item_alone u text at symbol end i h e = record {
  stop = end;
  lone = i;
  rest = tokens (drop end text);
  further = h.further;
  within = h.within;
  begins = h.rest;
  first = ap (lone_item u) (sym h.seen) ∙ e;
  goes = λ done b. record { last = record (token_between text at end) { spaced = b }; on = refl };
}

item_more : (u : TimeUnit) (text : List ℕ) (at end stop byte : ℕ) (i j : Item) (k : Connector) (symbol : Symbol) → IsItemAt u text at i end
    → IsBehind text end byte symbol stop → is_space byte ≡ false → connector_view k ≡ sign_of byte
    → ((done : List Item) (last x : Token) → symbol ≡ symbol_of x
    → joined u (record { done = done; item = i; last = last }) (connector_view k) x ≡ Some (record { done = done; item = j; last = x }))
    → IsItemAt u text at j stop
item_more u text at end stop byte i j k symbol h more front sign join =
    let x = token_between text (end + 1) stop in
    record {
      stop = h.stop;
      lone = h.lone;
      rest = h.rest;
      further = omega (arith, h.further, more.token.further);
      within = more.token.within;
      begins = h.begins;
      first = h.first;
      goes = λ done b.
          let before = h.goes done b in
          record {
            last = x;
            on = before.on ∙ goes_on u text end (record { done = done; item = i; last = before.last }) (record { done = done; item = j; last = x }) k x
                (tokens (drop stop text)) more.within (ap is_space more.stands ∙ front) (sign ∙ ap sign_of (sym more.stands)) more.token.rest refl
                (join done before.last x more.token.seen);
          };
    }

-- a base with a step
pub item_stepped : (u : TimeUnit) (text : List ℕ) (at end stop : ℕ) (b : Base) (n : ℕ) → IsItemAt u text at (plain b) end
    → IsBehind text end 47 (number n) stop → IsItemAt u text at (stepped b n) stop
item_stepped u text at end stop b n h more =
    item_more u text at end stop 47 (plain b) (stepped b n) Slash (number n) h more refl refl
    (λ done last x e. ap (λ (y : Symbol). option_map (λ (i : Item). record { done = done; item = i; last = x }) (with_step (plain b) y)) (sym e))

-- from one number to another
pub item_range : (u : TimeUnit) (text : List ℕ) (at end stop a b : ℕ) → IsItemAt u text at (plain (single a)) end
    → IsBehind text end 45 (number b) stop → IsItemAt u text at (plain (number_range a b)) stop
item_range u text at end stop a b h more =
    item_more u text at end stop 45 (plain (single a)) (plain (number_range a b)) Dash (number b) h more refl refl
    (λ done last x e. ap (λ (y : Symbol). option_map (λ (i : Item). record { done = done; item = i; last = x }) (with_end (plain (single a)) y)) (sym e))

-- from one name to another
pub item_names : (u : TimeUnit) (text : List ℕ) (at end stop : ℕ) (v w : List ℕ) → IsItemAt u text at (name v) end
    → IsBehind text end 45 (word w) stop → IsItemAt u text at (plain (name_range v w)) stop
item_names u text at end stop v w h more =
    item_more u text at end stop 45 (name v) (plain (name_range v w)) Dash (word w) h more refl refl
    (λ done last x e. ap (λ (y : Symbol). option_map (λ (i : Item). record { done = done; item = i; last = x }) (with_end (name v) y)) (sym e))

-- ---- a list of items

-- the tokens are read as items up to an index, and the items denote this set
pub record IsListTo (u : TimeUnit) (ts : List Token) (text : List ℕ) (end : ℕ) (set : FieldSet) : Type 0 where
  pub done : List Item
  pub item : Item
  pub last : Token
  pub read : field_at u ts ≡ Some (furthest u (record { done = done; item = item; last = last }) (tokens (drop end text)))
  pub denotes : Denotes u (done ++ item ∷ []) set
  pub within : end ≤ length text

pub list_first : (u : TimeUnit) (text : List ℕ) (p : Place) (end : ℕ) (none set : FieldSet) → IsAddedAt u text p.at end none set → Denotes u [] none
    → IsListTo u (tokens_from text p) text end set
list_first u text p end none set h empty =
    let t = token_between text p.at h.is.stop in
    let goes = h.is.goes [] p.spaced in
    let lone = ap (lone_item u) (symbol_spaced p.spaced t) ∙ h.is.first in
    let begins = gap_token p.spaced t (tokens (drop p.at text)) h.is.rest refl h.is.begins in
    record {
      done = [];
      item = h.item;
      last = goes.last;
      read = ap (field_at u) begins ∙ (read_first u (record t { spaced = p.spaced }) h.is.rest h.is.lone lone ∙ ap Some goes.on);
      denotes = denotes_push u [] h.item none set empty h.adds;
      within = h.is.within;
    }

pub list_next : (u : TimeUnit) (ts : List Token) (text : List ℕ) (end stop : ℕ) (old new : FieldSet) → IsListTo u ts text end old → end < length text
    → get_or text end 0 ≡ 44 → IsAddedAt u text (end + 1) stop old new → IsListTo u ts text stop new
list_next u ts text end stop old new h l comma more =
    let t = token_between text (end + 1) more.is.stop in
    let done = h.done ++ h.item ∷ [] in
    let goes = more.is.goes done false in
    let on = goes_on u text end (record { done = h.done; item = h.item; last = h.last }) (record { done = done; item = more.is.lone; last = t }) Comma t
    more.is.rest l (rw comma refl) (rw comma refl) more.is.begins refl
    (ap (option_map (λ (i : Item). record { done = done; item = i; last = t })) more.is.first) in
    record {
      done = done;
      item = more.item;
      last = goes.last;
      read = h.read ∙ ap Some (on ∙ goes.on);
      denotes = denotes_push u done more.item old new h.denotes more.adds;
      within = more.is.within;
    }

-- A list behind which no connector stands is a field.
pub list_taken : (u : TimeUnit) (ts : List Token) (text : List ℕ) (end : ℕ) (set : FieldSet) (rest : List Token) → IsListTo u ts text end set
    → rest ≡ tokens (drop end text) → NoConnector rest → TakesField u ts set rest
list_taken u ts text end set rest h same apart =
    let s : FieldState = record { done = h.done; item = h.item; last = h.last } in
    field_taken u ts rest s set (h.read ∙ ap Some (ap (furthest u s) (sym same) ∙ stays_alone u s rest apart)) h.denotes

-- ---- what the code reads

pub symbol_of_code : (text : List ℕ) (at end : ℕ) (kept : code.Symbol) (symbol : Symbol) → IsTokenAt text at kept end → symbol_view kept ≡ symbol
    → IsSymbolAt text at symbol end
symbol_of_code text at end kept symbol h e = record { further = h.further; within = h.within; seen = sym e ∙ h.seen; rest = h.rest }

-- a star with a step
pub star_stepped : (u : TimeUnit) (text : List ℕ) (at n stop : ℕ) → at < length text → get_or text at 0 ≡ 42
    → IsBehind text (at + 1) 47 (number n) stop → IsItemAt u text at (stepped every n) stop
star_stepped u text at n stop l e more =
    let digit : is_digit (get_or text at 0) ≡ false = rw e refl in
    let letter : is_letter (get_or text at 0) ≡ false = rw e refl in
    let front : is_space (get_or text at 0) ≡ false = rw e refl in
    let seen : star ≡ symbol_of (token_between text at (at + 1)) = rw e at (lone_symbol text at l digit letter) in
    let here : IsSymbolAt text at star (at + 1) =
    record { further = omega arith; within = omega (arith, l); seen = seen; rest = sign_token text at l front digit letter } in
    item_stepped u text at (at + 1) stop every n (item_alone u text at star (at + 1) (plain every) here refl) more
