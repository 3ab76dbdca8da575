-- A text of one word is that word without the white space at its ends.
use Rattle.std.proofs.Common.{◌≡◌, ℕ, Bool, true, false, not, List, [], ◌∷◌, filter, length, refl, sym, ap, ◌∙◌, subst, lt-ltb, arith, cond}
use Rattle.std.specs.List.{list_all, slice_split}
use Rattle.cron_text.specs.Meaning.{trimmed_front, trimmed_end, before_rest}
use Rattle.cron_text.specs.Tokens.{is_space}
use Rattle.cron_text.proofs.TokenRuns.{and_parts}
use Rattle.cron_text.proofs.Trims.{front_more, front_none, front_stays}
use Rattle.cron_crontab.specs.Crontab.{is_filled, words}

-- the first part of a text, behind which there is no word
record IsLast (text first : List ℕ) : Type 0 where
  more : List (List ℕ)
  parts : slice_split is_space text ≡ first ∷ more
  none : filter is_filled more ≡ []

end_nil : trimmed_end [] ≡ []
unfolding trimmed_end
end_nil = refl

end_cons : (c : ℕ) (cs : List ℕ) → trimmed_end (c ∷ cs) ≡ before_rest c (trimmed_end cs)
unfolding trimmed_end
end_cons c cs = refl

filled : (c : ℕ) (cs : List ℕ) (qs : List (List ℕ)) → filter is_filled ((c ∷ cs) ∷ qs) ≡ (c ∷ cs) ∷ filter is_filled qs
filled c cs qs = let some : is_filled (c ∷ cs) ≡ true = lt-ltb 0 (length (c ∷ cs)) (omega arith) in rw some refl

-- a byte that is no space is of the first part
onto_part : (c : ℕ) (cs first : List ℕ) (more : List (List ℕ)) → is_space c ≡ false → slice_split is_space cs ≡ first ∷ more
    → slice_split is_space (c ∷ cs) ≡ (c ∷ first) ∷ more
onto_part c cs first more black parts = rw (black, parts) refl

-- ---- from the words to the text

-- a text has a first part
record HasFirst (text : List ℕ) : Type 0 where
  first : List ℕ
  more : List (List ℕ)
  parts : slice_split is_space text ≡ first ∷ more

has_first : (text : List ℕ) → HasFirst text
has_first [] = record { first = []; more = []; parts = refl }
has_first (c ∷ cs) = by_space (is_space c) refl (has_first cs)
  where
    by_space : (b : Bool) → is_space c ≡ b → HasFirst cs → HasFirst (c ∷ cs)
    by_space true h k = record { first = []; more = slice_split is_space cs; parts = rw h refl }
    by_space false h k = record { first = c ∷ k.first; more = k.more; parts = onto_part c cs k.first k.more h k.parts }

-- where no part is filled the first isn't
none_filled : (first : List ℕ) (more : List (List ℕ)) → filter is_filled (first ∷ more) ≡ [] → (first ≡ []) × (filter is_filled more ≡ [])
none_filled [] more h = (refl, h)
none_filled (c ∷ cs) more h = absurd (let some = filled c cs more in cc)

before_some : (c : ℕ) (cs : List ℕ) → is_space c ≡ false → before_rest c cs ≡ c ∷ cs
before_some c [] h = rw h refl
before_some c (d ∷ ds) h = refl

-- the first part is all but the white space at the end, where no word is behind it
last_part : (text first : List ℕ) (more : List (List ℕ)) → slice_split is_space text ≡ first ∷ more → filter is_filled more ≡ [] → trimmed_end text ≡ first
last_part [] first more h none = end_nil ∙ cc
last_part (c ∷ cs) first more h none = by_space (is_space c) refl (has_first cs) (λ f m e n. last_part cs f m e n)
  where
    by_space : (b : Bool) → is_space c ≡ b → HasFirst cs
        → ((f : List ℕ) (m : List (List ℕ)) → slice_split is_space cs ≡ f ∷ m → filter is_filled m ≡ [] → trimmed_end cs ≡ f)
        → trimmed_end (c ∷ cs) ≡ first
    by_space true is k last =
        let cut : [] ∷ slice_split is_space cs ≡ first ∷ more = rw is at h in
        let empty : [] ≡ first = cc in
        let behind : slice_split is_space cs ≡ more = cc in
        let words_none : filter is_filled (k.first ∷ k.more) ≡ [] = ap (filter is_filled) (sym k.parts ∙ behind) ∙ none in
        let both = none_filled k.first k.more words_none in
        let rest : trimmed_end cs ≡ [] = last k.first k.more k.parts both.1 ∙ both.0 in
        end_cons c cs ∙ rw (rest, is) empty
    by_space false is k last =
        let cut : (c ∷ k.first) ∷ k.more ≡ first ∷ more = rw (is, k.parts) at h in
        let same : c ∷ k.first ≡ first = cc in
        let behind : k.more ≡ more = cc in
        let rest : trimmed_end cs ≡ k.first = last k.first k.more k.parts (ap (filter is_filled) behind ∙ none) in
        end_cons c cs ∙ (ap (before_rest c) rest ∙ (before_some c k.first is ∙ same))

pub trimmed_word : (text word : List ℕ) → words text ≡ word ∷ [] → trimmed_end (trimmed_front text) ≡ word
trimmed_word [] word h = absurd (cc)
trimmed_word (c ∷ cs) word h = by_space (is_space c) refl (has_first cs) (λ e. trimmed_word cs word e)
  where
    by_space : (b : Bool) → is_space c ≡ b → HasFirst cs → (words cs ≡ word ∷ [] → trimmed_end (trimmed_front cs) ≡ word)
        → trimmed_end (trimmed_front (c ∷ cs)) ≡ word
    by_space true is k more =
        let same : words (c ∷ cs) ≡ words cs = rw is refl in
        ap trimmed_end (front_more c cs is) ∙ more (sym same ∙ h)
    by_space false is k more =
        let parts : slice_split is_space (c ∷ cs) ≡ (c ∷ k.first) ∷ k.more = onto_part c cs k.first k.more is k.parts in
        let both : (c ∷ k.first) ∷ filter is_filled k.more ≡ word ∷ [] = sym (filled c k.first k.more) ∙ (sym (ap (filter is_filled) parts) ∙ h) in
        let first : c ∷ k.first ≡ word = cc in
        let none : filter is_filled k.more ≡ [] = cc in
        ap trimmed_end (front_stays c cs is) ∙ (last_part (c ∷ cs) (c ∷ k.first) k.more parts none ∙ first)

-- ---- from the text to the words

-- a word has no white space in it
abbrev pub IsSolid : List ℕ → Type 0
IsSolid word = list_all (λ c. not (is_space c)) word ≡ true

solid_first : (c : ℕ) (cs : List ℕ) → IsSolid (c ∷ cs) → is_space c ≡ false
solid_first c cs h = by_space (is_space c) refl (and_parts (not (is_space c)) _ h).0
  where
    by_space : (b : Bool) → is_space c ≡ b → not (is_space c) ≡ true → is_space c ≡ false
    by_space true is n = absurd (let no : false ≡ true = rw is at n in cc)
    by_space false is n = is

before_none : (c : ℕ) (b : Bool) → is_space c ≡ b → before_rest c [] ≡ cond b [] (c ∷ [])
before_none c b h = rw h refl

-- what is left without the white space at the end is the first part, where that has none in it
only_part : (text word : List ℕ) → trimmed_end text ≡ word → IsSolid word → IsLast text word
only_part [] word h solid = record { more = []; parts = ap (λ w. w ∷ []) (sym end_nil ∙ h); none = refl }
only_part (c ∷ cs) word h solid = by_rest (trimmed_end cs) (is_space c) refl refl (λ v e s. only_part cs v e s)
  where
    by_rest : (v : List ℕ) (b : Bool) → trimmed_end cs ≡ v → is_space c ≡ b → ((w : List ℕ) → trimmed_end cs ≡ w → IsSolid w → IsLast cs w) → IsLast (c ∷ cs) word
    by_rest [] true rest is more =
        let k = more [] rest refl in
        let same : [] ≡ word = sym (before_none c true is) ∙ (sym (ap (before_rest c) rest) ∙ (sym (end_cons c cs) ∙ h)) in
        record { more = slice_split is_space cs; parts = rw is (ap (λ w. w ∷ slice_split is_space cs) same); none = ap (filter is_filled) k.parts ∙ k.none }
    by_rest [] false rest is more =
        let k = more [] rest refl in
        let same : c ∷ [] ≡ word = sym (before_none c false is) ∙ (sym (ap (before_rest c) rest) ∙ (sym (end_cons c cs) ∙ h)) in
        record { more = k.more; parts = onto_part c cs [] k.more is k.parts ∙ ap (λ w. w ∷ k.more) same; none = k.none }
    by_rest (d ∷ ds) b rest is more =
        let same : c ∷ d ∷ ds ≡ word = sym (ap (before_rest c) rest) ∙ (sym (end_cons c cs) ∙ h) in
        let whole : IsSolid (c ∷ d ∷ ds) = subst IsSolid (sym same) solid in
        let k = more (d ∷ ds) rest (and_parts (not (is_space c)) _ whole).1 in
        let black = solid_first c (d ∷ ds) whole in
        record { more = k.more; parts = onto_part c cs (d ∷ ds) k.more black k.parts ∙ ap (λ w. w ∷ k.more) same; none = k.none }

pub word_trimmed : (text : List ℕ) (c : ℕ) (cs : List ℕ) → trimmed_end (trimmed_front text) ≡ c ∷ cs → IsSolid (c ∷ cs) → words text ≡ (c ∷ cs) ∷ []
word_trimmed [] c cs h solid = absurd (let none : trimmed_end (trimmed_front []) ≡ [] = ap trimmed_end front_none ∙ end_nil in cc)
word_trimmed (d ∷ ds) c cs h solid = by_space (is_space d) refl (λ e. word_trimmed ds c cs e solid)
  where
    by_space : (b : Bool) → is_space d ≡ b → (trimmed_end (trimmed_front ds) ≡ c ∷ cs → words ds ≡ (c ∷ cs) ∷ []) → words (d ∷ ds) ≡ (c ∷ cs) ∷ []
    by_space true is more =
        let same : words (d ∷ ds) ≡ words ds = rw is refl in
        same ∙ more (sym (ap trimmed_end (front_more d ds is)) ∙ h)
    by_space false is more =
        let k = only_part (d ∷ ds) (c ∷ cs) (sym (ap trimmed_end (front_stays d ds is)) ∙ h) solid in
        ap (filter is_filled) k.parts ∙ (filled c cs k.more ∙ ap (λ ws. (c ∷ cs) ∷ ws) k.none)
