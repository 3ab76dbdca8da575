-- What is pushed one after another, put together.
use Rattle.std.proofs.Common.{◌≡◌, ℕ, ◌<◌, List, [], ◌∷◌, ◌++◌, length, refl, ap, ◌∙◌, append_assoc, arith}
use Rattle.std.specs.Prelude.{codes}
use Rattle.cron_systemd.specs.Texts.{fed_text, written}
use Rattle.cron_systemd.specs.declared.values.Form.TheVariants.{Input}

pub three : (old one two new a b c : List ℕ) → one ≡ old ++ a → two ≡ one ++ b → new ≡ two ++ c → new ≡ old ++ (a ++ (b ++ c))
three old one two new a b c is1 is2 is3 =
    is3
    ∙ (ap (λ t. t ++ c) (is2 ∙ ap (λ t. t ++ b) is1)
    ∙ (append_assoc (old ++ a) b c ∙ append_assoc old a (b ++ c)))

pub four : (old one two three' new a b c d : List ℕ) → one ≡ old ++ a → two ≡ one ++ b → three' ≡ two ++ c → new ≡ three' ++ d
    → new ≡ old ++ (a ++ (b ++ (c ++ d)))
four old one two three' new a b c d is1 is2 is3 is4 =
    is4 ∙ (ap (λ t. t ++ d) is3 ∙ (append_assoc two c d ∙ three old one two (two ++ (c ++ d)) a b (c ++ d) is1 is2 refl))

pub fed_chain : (old one two new input : List ℕ) → 0 < length input → one ≡ old ++ codes "StandardInputText=" → two ≡ one ++ written Input input
    → new ≡ two ++ 10 ∷ [] → new ≡ old ++ fed_text input
fed_chain old one two new [] some is1 is2 is3 = absurd (omega arith)
fed_chain old one two new (c ∷ cs) some is1 is2 is3 = three old one two new (codes "StandardInputText=") (written Input (c ∷ cs)) (10 ∷ []) is1 is2 is3
