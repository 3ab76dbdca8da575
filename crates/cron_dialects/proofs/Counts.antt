-- How many fields stand in tokens: how many tokens there are, without each connector and the token that it joins.
use Rattle.std.proofs.Common.{◌≡◌, ℕ, suc, ◌+◌, ◌⊎◌, inl, inr, cond, List, [], ◌∷◌, ◌++◌, map, length, refl, ap, arith}
use Rattle.cron_units.specs.Units.{TimeUnit, FieldSet}
use Rattle.cron_units.specs.Units as units
use Rattle.cron_units.specs.Sets.{Sets}
use Rattle.cron_text.specs.Fields.{Base, Item, base_symbols, item_symbols, list_symbols, is_connector, IsField, every, question_mark, single, number_range, name_range, plain, stepped, name}
use Rattle.cron_text.specs.Meaning.{six_units, field_sets, DenoteYears, DenoteSets, IsLonghand}
use Rattle.cron_text.specs.Tokens.{Token, Symbol, symbol_of, tokens, comma}

abbrev pub one : Symbol → ℕ
one a = 1

abbrev pub link : Symbol → ℕ
link a = cond (is_connector a) 1 0

-- the sum of a measure of some symbols
abbrev pub measure : (Symbol → ℕ) → List Symbol → ℕ
measure m [] = 0
measure m (a ∷ bs) = m a + measure m bs

abbrev pub symbols : List Token → List Symbol
symbols ts = map symbol_of ts

-- so many fields have these symbols
pub record AreSymbols (fields : ℕ) (bs : List Symbol) : Type 0 where
  pub count : measure one bs ≡ measure link bs + measure link bs + fields

-- so many fields have these tokens
abbrev pub AreTokens : ℕ → List Token → Type 0
AreTokens fields ts = AreSymbols fields (symbols ts)

pub measure-append : (m : Symbol → ℕ) (xs ys : List Symbol) → measure m (xs ++ ys) ≡ measure m xs + measure m ys
measure-append m [] ys = omega arith
measure-append m (a ∷ xs) ys = omega (arith, measure-append m xs ys)

pub symbols-append : (ts us : List Token) → symbols (ts ++ us) ≡ symbols ts ++ symbols us
symbols-append [] us = refl
symbols-append (t ∷ ts) us = ap (λ xs. symbol_of t ∷ xs) (symbols-append ts us)

-- ---- this library's fields

base_count : (b : Base) → AreSymbols 1 (base_symbols b)
base_count every = record { count = refl }
base_count question_mark = record { count = refl }
base_count (single n) = record { count = refl }
base_count (number_range a b) = record { count = refl }
base_count (name_range v w) = record { count = refl }

-- what is joined to a field is of that field
joined_count : (xs ys : List Symbol) (a : Symbol) → link a ≡ 1 → AreSymbols 1 xs → AreSymbols 1 ys → AreSymbols 1 (xs ++ a ∷ ys)
joined_count xs ys a l h k =
    record { count = omega (arith, measure-append one xs (a ∷ ys), measure-append link xs (a ∷ ys), l, h.count, k.count) }

item_count : (i : Item) → AreSymbols 1 (item_symbols i)
item_count (plain b) = base_count b
item_count (stepped b n) = joined_count (base_symbols b) _ _ refl (base_count b) (record { count = refl })
item_count (name w) = record { count = refl }

list_count : (i : Item) (is : List Item) → AreSymbols 1 (list_symbols (i ∷ is))
list_count i [] = item_count i
list_count i (j ∷ is) = joined_count (item_symbols i) (list_symbols (j ∷ is)) comma refl (item_count i) (list_count j is)

some_count : (is : List Item) → (is ≡ [] → ⊥) → AreSymbols 1 (list_symbols is)
some_count [] some = absurd (some refl)
some_count (i ∷ is) some = list_count i is

field_count : (u : TimeUnit) (ts : List Token) (is : List Item) → IsField u ts is → AreTokens 1 ts
field_count u ts is f = rw f.written (some_count is f.nonempty)

-- fields, one after another
after_count : (n : ℕ) (ts us : List Token) → AreTokens 1 ts → AreTokens n us → AreTokens (suc n) (ts ++ us)
after_count n ts us h k =
    let xs = symbols ts in
    let ys = symbols us in
    rw (symbols-append ts us) (record { count = omega (arith, measure-append one xs ys, measure-append link xs ys, h.count, k.count) })

-- so many fields, or one more
abbrev OneMore : ℕ → List Token → Type 0
OneMore n ts = AreTokens n ts ⊎ AreTokens (suc n) ts

years_count : (ts : List Token) (xs : FieldSet) → DenoteYears ts xs → OneMore 0 ts
years_count ts xs (inl h) = inl (rw h.0 (record { count = refl }))
years_count ts xs (inr h) = inr (field_count units.years ts h.0 h.1)

more_count : (n : ℕ) (ts us : List Token) → AreTokens 1 ts → OneMore n us → OneMore (suc n) (ts ++ us)
more_count n ts us h (inl k) = inl (after_count n ts us h k)
more_count n ts us h (inr k) = inr (after_count (suc n) ts us h k)

sets_count : (us : List TimeUnit) (ts : List Token) (xss : List FieldSet) → DenoteSets us ts xss → OneMore (length us) ts
sets_count [] ts [] h = absurd h
sets_count [] ts (xs ∷ []) h = years_count ts xs h
sets_count [] ts (xs ∷ ys ∷ xss) h = absurd h
sets_count (u ∷ us) ts [] h = absurd h
sets_count (u ∷ us) ts (xs ∷ xss) h = rw h.3 (more_count (length us) h.0 h.1 (field_count u h.0 h.2 h.4) (sets_count us h.1 xss h.6))

-- six fields, or seven
pub longhand_count : (text : List ℕ) (s : Sets) → IsLonghand text s → AreTokens 6 (tokens text) ⊎ AreTokens 7 (tokens text)
longhand_count text s h = sets_count six_units (tokens text) (field_sets s) h

-- so no other number of them
pub no_longhand : (text : List ℕ) (s : Sets) (fields : ℕ) → AreTokens fields (tokens text) → (fields ≡ 6 → ⊥) → (fields ≡ 7 → ⊥) → IsLonghand text s → ⊥
no_longhand text s fields are six seven h =
    elim (longhand_count text s h) [
      | inl k ↦ six (omega (arith, are.count, k.count))
      | inr k ↦ seven (omega (arith, are.count, k.count))
    ]
