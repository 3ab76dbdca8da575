-- Fields one after another: a cut anywhere and the longest fronts are the same cut, and what a reader tells of them.
use Rattle.std.proofs.Common.{◌≡◌, ℕ, true, ◌&&◌, inl, inr, Some, List, [], ◌∷◌, ◌++◌, refl, sym, ap, ◌∙◌, subst, append-nil}
use Rattle.std.specs.List.{AllByRecursion}
use Rattle.cron_units.specs.Laws.{is_unit-seconds, is_unit-minutes, is_unit-hours, is_unit-days_of_month, is_unit-months, is_unit-days_of_week}
use Rattle.cron_units.specs.Units.{TimeUnit, FieldSet, IsUnit}
use Rattle.cron_units.specs.Units as units
use Rattle.cron_units.specs.Denotation.{Denotes}
use Rattle.cron_units.specs.Refusals.{IsFirstRefusal}
use Rattle.cron_units.proofs.DenotedSets.{denotes_once, not_refused}
use Rattle.cron_text.specs.Fault.{IsLongestField, NoField, TakesField, RefusesField, IsRefused, IsFaultOf, TakeSets, syntax_text}
use Rattle.cron_text.specs.FaultText.{fault_text}
use Rattle.cron_text.specs.Inner.Faults.{IsUnread}
use Rattle.cron_text.specs.declared.faults.Fault.{Fault}
use Rattle.cron_text.specs.declared.faults.Fault.TheVariants.{Syntax, Refused}
use Rattle.cron_text.specs.Fields.{Item, is_connector, spacing_fits, IsField}
use Rattle.cron_text.specs.Inner.FieldReading.{FieldState, lone_item, joined, next_state, state_after, first_state, state_items}
use Rattle.cron_text.specs.Meaning.{six_units, DenoteYears, DenoteSets}
use Rattle.cron_text.specs.Inner.TextReading.{IsRefusalOf}
use Rattle.cron_text.specs.Tokens.{Token, Symbol, symbol_of, comma, dash, slash}
use Rattle.cron_text.proofs.Longest.{longest_read, nothing, none_left, state_after-append}
use Rattle.cron_text.proofs.FieldStates.{field_states, bound, mapped, chosen, some_same}

pub are_units : AllByRecursion IsUnit six_units
are_units = (
  is_unit-seconds,
  (is_unit-minutes, (is_unit-hours, (is_unit-days_of_month, (is_unit-months, (is_unit-days_of_week, tt))))),
)

connector_next : (u : TimeUnit) (s : FieldState) (a : Symbol) (x : Token) (z : FieldState) → joined u s a x ≡ Some z → is_connector a ≡ true
connector_next u s comma x z h = refl
connector_next u s dash x z h = refl
connector_next u s slash x z h = refl
connector_next u s a x z h = absurd (cc)

lone_no_connector : (u : TimeUnit) (a : Symbol) (i : Item) → lone_item u a ≡ Some i → is_connector a ≡ true → ⊥
lone_no_connector u comma i h c = cc
lone_no_connector u dash i h c = cc
lone_no_connector u slash i h c = cc
lone_no_connector u a i h c = cc

-- no field goes on into tokens that begin with a field
no_way_on : (u p : TimeUnit) (s z : FieldState) (rest more after : List Token) (items : List Item) → IsField p rest items → (tail : List Token)
    → rest ++ tail ≡ more ++ after → state_after u s more ≡ Some z → more ≡ []
no_way_on u p s z rest [] after items f tail e w = refl
no_way_on u p s z rest (c ∷ []) after items f tail e w = absurd (cc)
no_way_on u p s z [] (c ∷ x ∷ more) after items f tail e w = absurd (nothing p items f)
no_way_on u p s z (t ∷ rest) (c ∷ x ∷ more) after items f tail e w =
    let b = bound (λ (y : FieldState). state_after u y more) (next_state u s c x) z w in
    let j = chosen (spacing_fits s.last c && spacing_fits c x) (joined u s (symbol_of c) x) b.0 b.1 in
    let first = field_states p (t ∷ rest) items f in
    let g = bound (λ (y : FieldState). state_after p y rest) (first_state p t) first.0 first.1 in
    let m = mapped (λ (i : Item). record { done = []; item = i; last = t }) (lone_item p (symbol_of t)) g.0 g.1 in
    let same : t ≡ c = cc in
    let l : lone_item p (symbol_of c) ≡ Some m.0 = subst (λ (y : Token). lone_item p (symbol_of y) ≡ Some m.0) same m.1 in
    absurd (lone_no_connector p (symbol_of c) m.0 l (connector_next u s (symbol_of c) x b.0 j.1))

-- nothing, or a field at the front
data BeginsField (ts : List Token) : Type 0 where
  empty : ts ≡ [] → BeginsField ts
  field : (p : TimeUnit) (front tail : List Token) (items : List Item) → ts ≡ front ++ tail → IsField p front items → BeginsField ts

-- no field goes on into what begins with a field, or into nothing
stops_before : (u : TimeUnit) (s z : FieldState) (rest more after : List Token) → BeginsField rest → rest ≡ more ++ after → state_after u s more ≡ Some z
    → more ≡ []
stops_before u s z rest more after (empty e) d w = none_left more after (sym e ∙ d)
stops_before u s z rest more after (field p front tail items e f) d w = no_way_on u p s z front more after items f tail (sym e ∙ d) w

-- a field with nothing or with a field behind it is the longest
longest_before : (u : TimeUnit) (ts front rest : List Token) (items : List Item) → ts ≡ front ++ rest → IsField u front items → BeginsField rest
    → IsLongestField u ts front rest items
longest_before u ts [] rest items e f r = absurd (nothing u items f)
longest_before u ts (t ∷ front) rest items e f r =
    record {
      cut = e;
      field = f;
      longest = λ more after js d g.
          let w = field_states u (t ∷ front) items f in
          let b = bound (λ (y : FieldState). state_after u y front) (first_state u t) w.0 w.1 in
          let v = field_states u (t ∷ (front ++ more)) js g in
          let c = bound (λ (y : FieldState). state_after u y (front ++ more)) (first_state u t) v.0 v.1 in
          let same : b.0 ≡ c.0 = some_same b.0 c.0 (sym b.1 ∙ c.1) in
          let on : state_after u w.0 more ≡ Some v.0 = sym (state_after-append u b.0 w.0 front more b.2)
          ∙ (ap (λ (y : FieldState). state_after u y (front ++ more)) same ∙ c.2) in
          stops_before u w.0 v.0 rest more after r d on;
    }

years_begin : (ts : List Token) (xs : FieldSet) → DenoteYears ts xs → BeginsField ts
years_begin ts xs (inl h) = empty h.0
years_begin ts xs (inr h) = field units.years ts [] h.0 (sym (append-nil ts)) h.1

sets_begin : (us : List TimeUnit) (ts : List Token) (xss : List FieldSet) → DenoteSets us ts xss → BeginsField ts
sets_begin [] ts [] h = absurd h
sets_begin [] ts (xs ∷ []) h = years_begin ts xs h
sets_begin [] ts (xs ∷ ys ∷ xss) h = absurd h
sets_begin (u ∷ us) ts [] h = absurd h
sets_begin (u ∷ us) ts (xs ∷ xss) h = field u h.0 h.1 h.2 h.3 h.4

-- the first field of tokens that denote sets is the longest front
first_taken : (u : TimeUnit) (us : List TimeUnit) (ts : List Token) (xs : FieldSet) (xss : List FieldSet) → DenoteSets (u ∷ us) ts (xs ∷ xss)
    → (rest : List Token) × TakesField u ts xs rest × DenoteSets us rest xss
first_taken u us ts xs xss h =
    (h.1, record { front = h.0; items = h.2; longest = longest_before u ts h.0 h.1 h.2 h.3 h.4 (sets_begin us h.1 xss h.6); denotes = h.5 }, h.6)

-- Tokens that denote sets, cut somewhere, are what the longest fronts take.
pub sets_taken : (us : List TimeUnit) (ts : List Token) (xss : List FieldSet) → DenoteSets us ts xss → TakeSets us ts xss
sets_taken [] ts [] h = absurd h
sets_taken [] ts (xs ∷ []) h = h
sets_taken [] ts (xs ∷ ys ∷ xss) h = absurd h
sets_taken (u ∷ us) ts [] h = absurd h
sets_taken (u ∷ us) ts (xs ∷ xss) h = let f = first_taken u us ts xs xss h in (f.0, f.1, sets_taken us f.0 xss f.2)

pub taken_sets : (us : List TimeUnit) (ts : List Token) (xss : List FieldSet) → TakeSets us ts xss → DenoteSets us ts xss
taken_sets [] ts [] h = absurd h
taken_sets [] ts (xs ∷ []) h = h
taken_sets [] ts (xs ∷ ys ∷ xss) h = absurd h
taken_sets (u ∷ us) ts [] h = absurd h
taken_sets (u ∷ us) ts (xs ∷ xss) h = (h.1.front, h.0, h.1.items, h.1.longest.cut, h.1.longest.field, h.1.denotes, taken_sets us h.0 xss h.2)

-- two longest fields at one front are one
pub same_longest : (u : TimeUnit) (ts front rest front' rest' : List Token) (is js : List Item) → IsLongestField u ts front rest is
    → IsLongestField u ts front' rest' js → (rest ≡ rest') × (is ≡ js)
same_longest u ts front rest front' rest' is js f g =
    let a = longest_read u ts front rest is f in
    let b = longest_read u ts front' rest' js g in
    let same : (a.0, rest) ≡ (b.0, rest') = some_same (a.0, rest) (b.0, rest') (sym a.1 ∙ b.1) in
    (ap (λ (p : FieldState × List Token). p.1) same, sym a.2 ∙ (ap (λ (p : FieldState × List Token). state_items p.0) same ∙ b.2))

same_set : (u : TimeUnit) (is js : List Item) (xs ys : FieldSet) → is ≡ js → Denotes u is xs → Denotes u js ys → xs ≡ ys
same_set u is js xs ys e d f = denotes_once u js xs ys (subst (λ (ks : List Item). Denotes u ks xs) e d) f

pub takes_once : (u : TimeUnit) (ts : List Token) (xs ys : FieldSet) (rest rest' : List Token) → TakesField u ts xs rest → TakesField u ts ys rest'
    → (rest ≡ rest') × (xs ≡ ys)
takes_once u ts xs ys rest rest' t v =
    let s = same_longest u ts t.front rest v.front rest' t.items v.items t.longest v.longest in
    (s.0, same_set u t.items v.items xs ys s.1 t.denotes v.denotes)

-- a whole list of tokens that is a field is its own longest front
pub whole_longest : (u : TimeUnit) (ts : List Token) (items : List Item) → IsField u ts items → IsLongestField u ts ts [] items
whole_longest u ts items f = longest_before u ts ts [] items (sym (append-nil ts)) f (empty refl)

years_once : (ts : List Token) (xs ys : FieldSet) → DenoteYears ts xs → DenoteYears ts ys → xs ≡ ys
years_once ts xs ys (inl h) (inl k) = h.1 ∙ sym k.1
years_once ts xs ys (inl h) (inr k) = absurd (nothing units.years k.0 (subst (λ (t : List Token). IsField units.years t k.0) h.0 k.1))
years_once ts xs ys (inr h) (inl k) = absurd (nothing units.years h.0 (subst (λ (t : List Token). IsField units.years t h.0) k.0 h.1))
years_once ts xs ys (inr h) (inr k) =
    same_set units.years h.0 k.0 xs ys (same_longest units.years ts ts [] ts [] h.0 k.0 (whole_longest units.years ts h.0 h.1)
    (whole_longest units.years ts k.0 k.1)).1 h.2 k.2

-- The longest fronts denote at most one list of sets.
taken_once : (us : List TimeUnit) (ts : List Token) (xss yss : List FieldSet) → TakeSets us ts xss → TakeSets us ts yss → xss ≡ yss
taken_once [] ts [] yss h k = absurd h
taken_once [] ts (xs ∷ []) [] h k = absurd k
taken_once [] ts (xs ∷ []) (ys ∷ []) h k = ap (λ (zs : FieldSet). zs ∷ []) (years_once ts xs ys h k)
taken_once [] ts (xs ∷ []) (ys ∷ zs ∷ yss) h k = absurd k
taken_once [] ts (xs ∷ zs ∷ xss) yss h k = absurd h
taken_once (u ∷ us) ts [] yss h k = absurd h
taken_once (u ∷ us) ts (xs ∷ xss) [] h k = absurd k
taken_once (u ∷ us) ts (xs ∷ xss) (ys ∷ yss) h k =
    let s = takes_once u ts xs ys h.0 k.0 h.1 k.1 in
    let more = taken_once us k.0 xss yss (subst (λ (r : List Token). TakeSets us r xss) s.0 h.2) k.2 in
    rw (s.1, more) refl

-- Tokens denote at most one list of sets.
pub sets_once : (us : List TimeUnit) (ts : List Token) (xss yss : List FieldSet) → DenoteSets us ts xss → DenoteSets us ts yss → xss ≡ yss
sets_once us ts xss yss h k = taken_once us ts xss yss (sets_taken us ts xss h) (sets_taken us ts yss k)

-- ---- what is told

-- one field isn't both refused and taken
pub not_both : (u : TimeUnit) (ts : List Token) (xs : FieldSet) (rest : List Token) (text : List ℕ) → RefusesField u ts text → TakesField u ts xs rest → ⊥
not_both u ts xs rest text r t =
    let s = same_longest u ts r.front r.rest t.front rest r.items t.items r.longest t.longest in
    not_refused u t.items r.refusal xs (subst (λ (is : List Item). IsFirstRefusal u is r.refusal) s.1 r.first) t.denotes

-- where the first field is refused
pub refused_first : (u : TimeUnit) (us : List TimeUnit) (ts : List Token) (text : List ℕ) → RefusesField u ts text → IsRefusalOf (u ∷ us) ts text
refused_first u us ts text r =
    record { nothing = no_sets; told = inl (inl r) } where
      no_sets : (xss : List FieldSet) → DenoteSets (u ∷ us) ts xss → ⊥
      no_sets [] h = h
      no_sets (xs ∷ xss) h = let f = first_taken u us ts xs xss h in not_both u ts xs f.0 text r f.1

-- where no front is a field
unread_first : (u : TimeUnit) (us : List TimeUnit) (ts : List Token) → NoField u ts → IsRefusalOf (u ∷ us) ts syntax_text
unread_first u us ts n =
    record { nothing = no_sets; told = inr (none_told, refl) } where
      no_sets : (xss : List FieldSet) → DenoteSets (u ∷ us) ts xss → ⊥
      no_sets [] h = h
      no_sets (xs ∷ xss) h = n h.0 h.1 h.2 h.3 h.4

      none_told : (other : List ℕ) → IsRefused (u ∷ us) ts other → ⊥
      none_told other (inl q) = n q.front q.rest q.items q.longest.cut q.longest.field
      none_told other (inr q) = n q.2.front q.1 q.2.items q.2.longest.cut q.2.longest.field

-- where the first field isn't read
pub unread_refused : (u : TimeUnit) (us : List TimeUnit) (ts : List Token) (f : Fault) → IsUnread u ts f → IsRefusalOf (u ∷ us) ts (fault_text f)
unread_refused u us ts Syntax h = unread_first u us ts h
unread_refused u us ts (Refused r) h = refused_first u us ts (fault_text (Refused r)) h

-- where the first field is taken and the others are refused
pub refused_after : (u : TimeUnit) (us : List TimeUnit) (ts : List Token) (xs : FieldSet) (rest : List Token) (text : List ℕ) → TakesField u ts xs rest
    → IsRefusalOf us rest text → IsRefusalOf (u ∷ us) ts text
refused_after u us ts xs rest text t r =
    record { nothing = no_sets; told = fault r.told } where
      no_sets : (xss : List FieldSet) → DenoteSets (u ∷ us) ts xss → ⊥
      no_sets [] h = h
      no_sets (ys ∷ xss) h =
          let f = first_taken u us ts ys xss h in
          r.nothing xss (subst (λ (z : List Token). DenoteSets us z xss) (takes_once u ts ys xs f.0 rest f.1 t).0 f.2)

      none_else : ((other : List ℕ) → IsRefused us rest other → ⊥) → (other : List ℕ) → IsRefused (u ∷ us) ts other → ⊥
      none_else denied other (inl q) = not_both u ts xs rest other q t
      none_else denied other (inr q) = denied other (subst (λ (z : List Token). IsRefused us z other) (takes_once u ts q.0 xs q.1 rest q.2 t).0 q.3)

      fault : IsFaultOf us rest text → IsFaultOf (u ∷ us) ts text
      fault (inl q) = inl (inr (xs, rest, t, q))
      fault (inr q) = inr (none_else q.0, q.1)

-- where what stands after the six fields denotes no years
pub refused_years : (ts : List Token) → ((xs : FieldSet) → DenoteYears ts xs → ⊥) → IsRefusalOf [] ts syntax_text
refused_years ts denied =
    record { nothing = no_sets; told = inr (λ other h. h, refl) } where
      no_sets : (xss : List FieldSet) → DenoteSets [] ts xss → ⊥
      no_sets [] h = h
      no_sets (xs ∷ []) h = denied xs h
      no_sets (xs ∷ ys ∷ xss) h = h

-- a field of years that isn't read, is refused, or has something left over
pub no_years : (ts : List Token) → (ts ≡ [] → ⊥) → ((items : List Item) (xs : FieldSet) → IsField units.years ts items → Denotes units.years items xs → ⊥)
    → (xs : FieldSet) → DenoteYears ts xs → ⊥
no_years ts some denied xs (inl h) = some h.0
no_years ts some denied xs (inr h) = denied h.0 xs h.1 h.2

-- the field of years, whole
pub years_whole : (ts : List Token) (items : List Item) (xs : FieldSet) → IsField units.years ts items → Denotes units.years items xs
    → TakesField units.years ts xs []
years_whole ts items xs f d = record { front = ts; items = items; longest = whole_longest units.years ts items f; denotes = d }

pub years_unread : (ts : List Token) → (ts ≡ [] → ⊥) → NoField units.years ts → IsRefusalOf [] ts syntax_text
years_unread ts some denied =
    refused_years ts (no_years ts some (λ items xs f d. denied ts [] items (sym (append-nil ts)) f))

pub years_refused : (ts : List Token) (text : List ℕ) → (ts ≡ [] → ⊥) → RefusesField units.years ts text → IsRefusalOf [] ts syntax_text
years_refused ts text some r =
    refused_years ts (no_years ts some (λ items xs f d. not_both units.years ts xs [] text r (years_whole ts items xs f d)))

pub years_left_over : (ts : List Token) (xs : FieldSet) (rest : List Token) → (ts ≡ [] → ⊥) → TakesField units.years ts xs rest → (rest ≡ [] → ⊥)
    → IsRefusalOf [] ts syntax_text
years_left_over ts xs rest some t left =
    refused_years ts (no_years ts some (λ items ys f d. left (takes_once units.years ts xs ys rest [] t (years_whole ts items ys f d)).0))

-- the field of years isn't read
pub years_fault : (ts : List Token) (f : Fault) → (ts ≡ [] → ⊥) → IsUnread units.years ts f → IsRefusalOf [] ts syntax_text
years_fault ts Syntax some h = years_unread ts some h
years_fault ts (Refused r) some h = years_refused ts (fault_text (Refused r)) some h

-- the field of years, with nothing behind it
pub years_read : (ts : List Token) (xs : FieldSet) (rest : List Token) → TakesField units.years ts xs rest → rest ≡ [] → DenoteYears ts xs
years_read ts xs rest t e =
    let all : ts ≡ t.front = t.longest.cut ∙ (ap (λ (zs : List Token). t.front ++ zs) e ∙ append-nil t.front) in
    inr (t.items, subst (λ (zs : List Token). IsField units.years zs t.items) (sym all) t.longest.field, t.denotes)

-- a field taken and the sets of the others
pub sets_after : (u : TimeUnit) (us : List TimeUnit) (ts : List Token) (xs : FieldSet) (rest : List Token) (xss : List FieldSet) → TakesField u ts xs rest
    → DenoteSets us rest xss → DenoteSets (u ∷ us) ts (xs ∷ xss)
sets_after u us ts xs rest xss t h = (t.front, rest, t.items, t.longest.cut, t.longest.field, t.denotes, h)
