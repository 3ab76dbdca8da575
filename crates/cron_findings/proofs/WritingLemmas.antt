-- What was written one after another.
use Rattle.std.proofs.Common.{◌≡◌, ℕ, ◌++◌, List, ap, ◌∙◌, append_assoc}
use Rattle.json.specs.Token.{Token}

-- ---- bytes

pub appended_2 : (a b t0 t1 t2 : List ℕ) → t1 ≡ t0 ++ a → t2 ≡ t1 ++ b → t2 ≡ t0 ++ (a ++ b)
appended_2 a b t0 t1 t2 one two = two ∙ (ap (λ (l : List ℕ). l ++ b) one ∙ append_assoc t0 a b)

pub appended_3 : (a b c t0 t1 t2 t3 : List ℕ) → t1 ≡ t0 ++ a → t2 ≡ t1 ++ b → t3 ≡ t2 ++ c
    → t3 ≡ t0 ++ (a ++ (b ++ c))
appended_3 a b c t0 t1 t2 t3 h1 h2 h3 = appended_2 a (b ++ c) t0 t1 t3 h1 (appended_2 b c t1 t2 t3 h2 h3)

pub appended_4 : (a b c d t0 t1 t2 t3 t4 : List ℕ) → t1 ≡ t0 ++ a → t2 ≡ t1 ++ b → t3 ≡ t2 ++ c → t4 ≡ t3 ++ d
    → t4 ≡ t0 ++ (a ++ (b ++ (c ++ d)))
appended_4 a b c d t0 t1 t2 t3 t4 h1 h2 h3 h4 = appended_2 a (b ++ (c ++ d)) t0 t1 t4 h1 (appended_3 b c d t1 t2 t3 t4 h2 h3 h4)

pub appended_5 : (a b c d e t0 t1 t2 t3 t4 t5 : List ℕ) → t1 ≡ t0 ++ a → t2 ≡ t1 ++ b → t3 ≡ t2 ++ c → t4 ≡ t3 ++ d → t5 ≡ t4 ++ e
    → t5 ≡ t0 ++ (a ++ (b ++ (c ++ (d ++ e))))
appended_5 a b c d e t0 t1 t2 t3 t4 t5 h1 h2 h3 h4 h5 = appended_2 a (b ++ (c ++ (d ++ e))) t0 t1 t5 h1 (appended_4 b c d e t1 t2 t3 t4 t5 h2 h3 h4 h5)

pub appended_6 : (a b c d e f t0 t1 t2 t3 t4 t5 t6 : List ℕ) → t1 ≡ t0 ++ a → t2 ≡ t1 ++ b → t3 ≡ t2 ++ c → t4 ≡ t3 ++ d → t5 ≡ t4 ++ e → t6 ≡ t5 ++ f
    → t6 ≡ t0 ++ (a ++ (b ++ (c ++ (d ++ (e ++ f)))))
appended_6 a b c d e f t0 t1 t2 t3 t4 t5 t6 h1 h2 h3 h4 h5 h6 = appended_2 a (b ++ (c ++ (d ++ (e ++ f)))) t0 t1 t6 h1 (appended_5 b c d e f t1 t2 t3 t4 t5 t6 h2 h3 h4 h5 h6)

-- ---- tokens of JSON, where what stood before them stays

pub written_2 : (a b t0 t1 t2 : List Token) (p0 p1 p2 : List ℕ) → (t1 ≡ t0 ++ a) × (p1 ≡ p0) → (t2 ≡ t1 ++ b) × (p2 ≡ p1)
    → (t2 ≡ t0 ++ (a ++ b)) × (p2 ≡ p0)
written_2 a b t0 t1 t2 p0 p1 p2 (one, front) (two, same) = (two ∙ (ap (λ (l : List Token). l ++ b) one ∙ append_assoc t0 a b), same ∙ front)

pub written_3 : (a b c t0 t1 t2 t3 : List Token) (p0 p1 p2 p3 : List ℕ) → (t1 ≡ t0 ++ a) × (p1 ≡ p0) → (t2 ≡ t1 ++ b) × (p2 ≡ p1) → (t3 ≡ t2 ++ c) × (p3 ≡ p2)
    → (t3 ≡ t0 ++ (a ++ (b ++ c))) × (p3 ≡ p0)
written_3 a b c t0 t1 t2 t3 p0 p1 p2 p3 h1 h2 h3 =
    written_2 a (b ++ c) t0 t1 t3 p0 p1 p3 h1 (written_2 b c t1 t2 t3 p1 p2 p3 h2 h3)

pub written_4 : (a b c d t0 t1 t2 t3 t4 : List Token) (p0 p1 p2 p3 p4 : List ℕ) → (t1 ≡ t0 ++ a) × (p1 ≡ p0) → (t2 ≡ t1 ++ b) × (p2 ≡ p1) → (t3 ≡ t2 ++ c) × (p3 ≡ p2) → (t4 ≡ t3 ++ d) × (p4 ≡ p3)
    → (t4 ≡ t0 ++ (a ++ (b ++ (c ++ d)))) × (p4 ≡ p0)
written_4 a b c d t0 t1 t2 t3 t4 p0 p1 p2 p3 p4 h1 h2 h3 h4 =
    written_2 a (b ++ (c ++ d)) t0 t1 t4 p0 p1 p4 h1 (written_3 b c d t1 t2 t3 t4 p1 p2 p3 p4 h2 h3 h4)

pub written_5 : (a b c d e t0 t1 t2 t3 t4 t5 : List Token) (p0 p1 p2 p3 p4 p5 : List ℕ) → (t1 ≡ t0 ++ a) × (p1 ≡ p0) → (t2 ≡ t1 ++ b) × (p2 ≡ p1) → (t3 ≡ t2 ++ c) × (p3 ≡ p2) → (t4 ≡ t3 ++ d) × (p4 ≡ p3) → (t5 ≡ t4 ++ e) × (p5 ≡ p4)
    → (t5 ≡ t0 ++ (a ++ (b ++ (c ++ (d ++ e))))) × (p5 ≡ p0)
written_5 a b c d e t0 t1 t2 t3 t4 t5 p0 p1 p2 p3 p4 p5 h1 h2 h3 h4 h5 =
    written_2 a (b ++ (c ++ (d ++ e))) t0 t1 t5 p0 p1 p5 h1 (written_4 b c d e t1 t2 t3 t4 t5 p1 p2 p3 p4 p5 h2 h3 h4 h5)

pub written_6 : (a b c d e f t0 t1 t2 t3 t4 t5 t6 : List Token) (p0 p1 p2 p3 p4 p5 p6 : List ℕ) → (t1 ≡ t0 ++ a) × (p1 ≡ p0) → (t2 ≡ t1 ++ b) × (p2 ≡ p1) → (t3 ≡ t2 ++ c) × (p3 ≡ p2) → (t4 ≡ t3 ++ d) × (p4 ≡ p3) → (t5 ≡ t4 ++ e) × (p5 ≡ p4) → (t6 ≡ t5 ++ f) × (p6 ≡ p5)
    → (t6 ≡ t0 ++ (a ++ (b ++ (c ++ (d ++ (e ++ f)))))) × (p6 ≡ p0)
written_6 a b c d e f t0 t1 t2 t3 t4 t5 t6 p0 p1 p2 p3 p4 p5 p6 h1 h2 h3 h4 h5 h6 =
    written_2 a (b ++ (c ++ (d ++ (e ++ f)))) t0 t1 t6 p0 p1 p6 h1 (written_5 b c d e f t1 t2 t3 t4 t5 t6 p1 p2 p3 p4 p5 p6 h2 h3 h4 h5 h6)

pub written_7 : (a b c d e f g t0 t1 t2 t3 t4 t5 t6 t7 : List Token) (p0 p1 p2 p3 p4 p5 p6 p7 : List ℕ) → (t1 ≡ t0 ++ a) × (p1 ≡ p0) → (t2 ≡ t1 ++ b) × (p2 ≡ p1) → (t3 ≡ t2 ++ c) × (p3 ≡ p2) → (t4 ≡ t3 ++ d) × (p4 ≡ p3) → (t5 ≡ t4 ++ e) × (p5 ≡ p4) → (t6 ≡ t5 ++ f) × (p6 ≡ p5) → (t7 ≡ t6 ++ g) × (p7 ≡ p6)
    → (t7 ≡ t0 ++ (a ++ (b ++ (c ++ (d ++ (e ++ (f ++ g))))))) × (p7 ≡ p0)
written_7 a b c d e f g t0 t1 t2 t3 t4 t5 t6 t7 p0 p1 p2 p3 p4 p5 p6 p7 h1 h2 h3 h4 h5 h6 h7 =
    written_2 a (b ++ (c ++ (d ++ (e ++ (f ++ g))))) t0 t1 t7 p0 p1 p7 h1 (written_6 b c d e f g t1 t2 t3 t4 t5 t6 t7 p1 p2 p3 p4 p5 p6 p7 h2 h3 h4 h5 h6 h7)
