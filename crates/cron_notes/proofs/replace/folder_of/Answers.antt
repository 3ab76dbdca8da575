use Rattle.std.proofs.Common.{◌≡◌, ◌≢◌, ℕ, suc, ◌+◌, ◌-◌, ◌<◌, List, ◌∷◌, [], ◌++◌, length, take, drop, get_or, refl, sym, ap, ◌∙◌, inl, inr, arith, add-one, length-drop, drop-cons}
use Rattle.std.proofs.lemmas.List.{take-append-drop, get_or-drop}
use Rattle.std.proofs.Math.Seq.{take-suc}
use Rattle.std.proofs.lemmas.Str.Pattern.{rfind_char}
use Rattle.cron_notes.specs.Replacing.{HasNoSlash}
use Rattle.cron_notes.proofs.replace.folder_of.Goals as goal

-- a text is cut behind its last slash
cut_behind : (text : List ℕ) (at : ℕ) → at < length text → get_or text at 0 ≡ 47 → ((i : ℕ) → at < i → i < length text → get_or text i 0 ≢ 47)
    → (front : List ℕ) × (name : List ℕ) × (text ≡ front ++ 47 ∷ name) × HasNoSlash name × (take (at + 1) text ≡ front ++ 47 ∷ [])
cut_behind text at within is last =
    let at_slash : drop at text ≡ 47 ∷ drop (suc at) text = drop-cons text at 0 within ∙ ap (λ (b : ℕ). b ∷ drop (suc at) text) is in
    let cut : text ≡ take at text ++ 47 ∷ drop (suc at) text = sym (take-append-drop at text) ∙ ap (λ (l : List ℕ). take at text ++ l) at_slash in
    let free : HasNoSlash (drop (suc at) text) = λ i h. rw get_or-drop (last (suc at + i) (omega arith) (omega (arith, length-drop {A = ℕ}))) in
    let folder : take (at + 1) text ≡ take at text ++ 47 ∷ [] =
    rw add-one (take-suc text at 0 within ∙ ap (λ (b : ℕ). take at text ++ b ∷ []) is) in
    (take at text, drop (suc at) text, cut, free, folder)

pub returns-in-Some : goal.returns-in-Some
returns-in-Some c =
    let found = rfind_char 47 c.args.path.now c.rfind.result c.rfind.ensures.cases (omega arith) in
    let (within, is, last) = rw c.in-Some.is at found in
    let (front, name, cut, free, folder) = cut_behind c.args.path.now c.in-Some.at within is last in
    let whole : c.in-Some.at + 1 - 0 ≡ c.in-Some.at + 1 = omega arith in
    inr (front, name, cut, free, c.range.ensures.value ∙ (ap (λ (n : ℕ). take n c.args.path.now) whole ∙ folder))

pub returns-in-None : goal.returns-in-None
returns-in-None c =
    let found = rfind_char 47 c.args.path.now c.rfind.result c.rfind.ensures.cases (omega arith) in inl (rw c.in-None.is at found, refl)
