use Rattle.std.proofs.Common.{◌≡◌, ℕ, List, ◌++◌, ◌∷◌, [], length, ap, sym, ◌∙◌, subst}
use Rattle.packed_lists.specs.Stored.{PlainStored}
use Rattle.packed_lists.specs.Blocks.{PlainRowList, IsIndexed, joined}
use Rattle.packed_lists.proofs.Joined.{indexed_more, joined_more}
use Rattle.packed_lists.proofs.row_list.RowList.seal.Goals as goal

pub invariant_of-self-2 : goal.invariant_of-self-2
invariant_of-self-2 c =
    let bs : List (List PlainStored) = c.self.inside.blocks ++ c.self.inside.tail ∷ [] in
    let block : c.in_ok-held.held ≡ c.self.inside.tail = c.in_ok-held.ensures ∙ c.in_ok-block.ensures in
    let news : c.push.new.self ++ c.new-2.result ∷ [] ≡ bs ++ [] ∷ [] =
    ap (λ (l : List (List PlainStored)). l ++ c.new-2.result ∷ []) c.in_ok-push.ensures.ok ∙ (λ t. (c.self.inside.blocks ++ block t ∷ []) ++ c.new-2.ensures t ∷ []) in
    let firsts : c.in_ok-firsts.firsts ≡ c.self.inside.firsts ++ c.self.inside.next ∷ [] = c.in_ok-firsts.ensures in
    let starts : c.in_ok-starts.starts ≡ c.self.inside.starts ++ c.len-total.result ∷ [] = c.in_ok-starts.ensures in
    let total : c.len-total.result ≡ length (joined bs) = c.len-total.ensures.len ∙ ap (λ (v : PlainRowList). length v.rows) (sym c.self.view_is) in
    let P : List ℕ → List ℕ → List (List PlainStored) → Type 0 = λ fs ss l. IsIndexed fs ss l c.self.inside.next in
    subst (λ l. P c.in_ok-firsts.firsts c.in_ok-starts.starts l) (sym news)
    (subst (λ l. P c.in_ok-firsts.firsts l (bs ++ [] ∷ [])) (sym starts)
    (subst (λ l. P l (c.self.inside.starts ++ c.len-total.result ∷ []) (bs ++ [] ∷ [])) (sym firsts)
    (indexed_more c.self.inside.firsts c.self.inside.starts bs c.self.inside.next c.len-total.result c.self.invariant total)))

pub returns : goal.returns
returns c =
    let bs : List (List PlainStored) = c.self.inside.blocks ++ c.self.inside.tail ∷ [] in
    let block : c.in_ok-held.held ≡ c.self.inside.tail = c.in_ok-held.ensures ∙ c.in_ok-block.ensures in
    let news : c.push.new.self ++ c.new-2.result ∷ [] ≡ bs ++ [] ∷ [] =
    ap (λ (l : List (List PlainStored)). l ++ c.new-2.result ∷ []) c.in_ok-push.ensures.ok ∙ (λ t. (c.self.inside.blocks ++ block t ∷ []) ++ c.new-2.ensures t ∷ []) in
    (λ t. record { rows = joined (news t); next = c.self.inside.next }) ∙ (λ t. record { rows = joined_more bs t; next = c.self.inside.next }) ∙ c.self.view_is
