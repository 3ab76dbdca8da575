-- A short form is ASCII.
use Rattle.std.proofs.Common.{ℕ, zero, suc, ◌<◌, List, [], ◌∷◌, ◌++◌, subst, sym, arith}
use Rattle.std.proofs.lemmas.Fmt.{IsAscii-decimal}
use Rattle.std.proofs.lemmas.Str.{IsAscii-append}
use Rattle.std.proofs.lemmas.Str.Ascii.{IsAscii-nil}
use Rattle.std.specs.Fmt.{decimal}
use Rattle.std.specs.List.{AllByRecursion}
use Rattle.std.specs.Str.{IsAscii}
use Rattle.cron_units.specs.Items.{Item, every, single, number_range, plain, name}
use Rattle.cron_canonical.specs.Short.{items_text, short_item}
use Rattle.cron_canonical.proofs.ShortTokens.{IsShortItem}

pub cons_ascii : (c : ℕ) (cs : List ℕ) → c < 128 → IsAscii cs → IsAscii (c ∷ cs)
cons_ascii c cs l a zero = l
cons_ascii c cs l a (suc i) = a i

number_ascii : (n : ℕ) (rest : List ℕ) → n < 4294967296 → IsAscii rest → IsAscii (decimal n ++ rest)
number_ascii n rest l a = IsAscii-append (decimal n) rest (IsAscii-decimal n (omega arith)) a

item_ascii : (i : Item) → IsShortItem i → IsAscii (short_item i)
item_ascii (plain every) p = cons_ascii 42 [] (omega arith) IsAscii-nil
item_ascii (plain (single n)) p = number_ascii n [] p IsAscii-nil
item_ascii (plain (number_range a b)) p = number_ascii a (45 ∷ (decimal b ++ [])) p.0 (cons_ascii 45 (decimal b ++ []) (omega arith) (number_ascii b [] p.1 IsAscii-nil))
item_ascii (name w) p = subst (λ (v : List ℕ). IsAscii (short_item (name v))) (sym p) (cons_ascii 76 [] (omega arith) IsAscii-nil)
item_ascii i p = absurd p

pub items_ascii : (is : List Item) → AllByRecursion IsShortItem is → IsAscii (items_text is)
items_ascii [] p = IsAscii-nil
items_ascii (i ∷ []) p = item_ascii i p.0
items_ascii (i ∷ j ∷ is) p =
    IsAscii-append (short_item i) (44 ∷ items_text (j ∷ is)) (item_ascii i p.0) (cons_ascii 44 (items_text (j ∷ is)) (omega arith) (items_ascii (j ∷ is) p.1))
