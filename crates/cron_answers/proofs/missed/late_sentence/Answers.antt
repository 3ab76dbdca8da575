use Rattle.std.proofs.Common.{◌≡◌, ℕ, List, [], ◌++◌, append_assoc}
use Rattle.std.specs.Prelude.{codes}
use Rattle.cron_answers.proofs.missed.late_sentence.Goals as goal

joined : (since text l0 l1 l2 l3 l4 l5 : List ℕ) → l0 ≡ [] → l1 ≡ l0 ++ codes "late since " → l2 ≡ l1 ++ since → l3 ≡ l2 ++ codes ": "
    → l4 ≡ l3 ++ text → l5 ≡ l4 ++ codes " was missed\n"
    → l5 ≡ codes "late since " ++ (since ++ (codes ": " ++ (text ++ codes " was missed\n")))
joined since text l0 l1 l2 l3 l4 l5 e0 e1 e2 e3 e4 e5 = rw (e5, e4, e3, e2, e1, e0) (simp append_assoc)

pub returns : goal.returns
returns c =
    joined c.args.since.now c.args.text.now c.new-sentence.result.items c.push_bytes.new.sentence.items
    c.push_bytes-2.new.sentence.items c.push_bytes-3.new.sentence.items c.push_bytes-4.new.sentence.items c.push_bytes-5.new.sentence.items
    c.new-sentence.ensures c.push_bytes.ensures.items c.push_bytes-2.ensures.items c.push_bytes-3.ensures.items c.push_bytes-4.ensures.items
    c.push_bytes-5.ensures.items
