-- Lemmas on the list of a Slab's blocks.
use Rattle.slab_ctx.proofs.Words.{◌≡◌, ◌≢◌, ℕ, ◌++◌, List, [], ◌∷◌, map, Some, None, refl, ap, ◌∙◌, arith, map-append, Layout, block_at, with_block, without_block, PutsBlock, DropsBlock, SameContext, Block, AreRising, with_last, rising_drop, without_number, others, numbered_of, blocks_of, first_region, IsListed, AreApart}
use Rattle.slab_ctx.proofs.Lives.{numbered_drop, find, alone-put, alone-drop}

-- blocks stay in different regions
apart-put : (number : ℕ) (now : Block) (es : List (ℕ × Block)) → AreApart es → AreApart (with_block es number now)
apart-put number now [] h = (refl, tt)
apart-put number now (e ∷ es) h = grind (arith, apart-put number now es h.1, alone-put number now e.0)

apart-drop : (number : ℕ) (es : List (ℕ × Block)) → AreApart es → AreApart (without_block es number)
apart-drop number [] h = tt
apart-drop number (e ∷ es) h = grind (arith, apart-drop number es h.1, alone-drop number e.0 es h.0)

-- a context without blocks
pub IsListed-none : (l : Layout) → l.blocks ≡ (l.keeper, first_region) ∷ [] → IsListed l
IsListed-none l blocks = record { shape = rw blocks refl; alone = rw blocks refl; rising = rw blocks tt; apart = rw blocks tt }

module _ (l : Layout) (listed : IsListed l) (number : ℕ) (differs : number ≢ l.keeper) where
  pub find-other : find number (others l.blocks) ≡ block_at l number
  find-other = let shape = ap (find number) listed.shape in grind arith

  put_shape : (now : Block) → with_block l.blocks number now ≡ (l.keeper, first_region) ∷ with_block (others l.blocks) number now
  put_shape now = let shape = ap (λ es. with_block es number now) listed.shape in grind arith

  drop_shape : without_block l.blocks number ≡ (l.keeper, first_region) ∷ without_block (others l.blocks) number
  drop_shape = let shape = ap (λ es. without_block es number) listed.shape in grind arith

  module _ (m : Layout) (same : SameContext l m) where
    listed_by : (es : List (ℕ × Block)) → m.blocks ≡ (l.keeper, first_region) ∷ es → find l.keeper es ≡ None → AreRising 1 m.last_number es → AreApart es → IsListed m
    listed_by es shape alone numbers different = record { shape = rw (shape, same.keeper) refl; alone = rw (shape, same.keeper) alone; rising = rw shape numbers; apart = rw shape different }

    module _ (now : Block) (puts : PutsBlock l m number now) where
      pub others-put : others m.blocks ≡ with_block (others l.blocks) number now
      others-put = ap others (puts.blocks ∙ put_shape now)

      -- a block is new, or another one
      pub IsListed-put : AreRising 1 m.last_number (with_block (others l.blocks) number now) → IsListed m
      IsListed-put rising = listed_by (with_block (others l.blocks) number now) (puts.blocks ∙ put_shape now) (alone-put number now l.keeper differs (others l.blocks) listed.alone) rising (apart-put number now (others l.blocks) listed.apart)

      -- a new one is the last
      pub map-added : {X : Type 0} (f : ℕ × Block → X) → block_at l number ≡ None → map f (others m.blocks) ≡ map f (others l.blocks) ++ f (number, now) ∷ []
      map-added f fresh = ap (map f) (others-put ∙ with_last number now (others l.blocks) (find-other ∙ fresh)) ∙ map-append f (others l.blocks) ((number, now) ∷ [])

    -- a block is given back
    module _ (drops : DropsBlock l m number) where
      pub others-drop : others m.blocks ≡ without_block (others l.blocks) number
      others-drop = ap others (drops.blocks ∙ drop_shape)

      pub IsListed-drop : m.last_number ≡ l.last_number → IsListed m
      IsListed-drop last = listed_by (without_block (others l.blocks) number) (drops.blocks ∙ drop_shape) (alone-drop number l.keeper (others l.blocks) listed.alone) (rw last (rising_drop 1 l.last_number number (others l.blocks) listed.rising)) (apart-drop number (others l.blocks) listed.apart)

      pub blocks-dropped : (b : Block) → block_at l number ≡ Some b → blocks_of m ≡ without_number (blocks_of l) b.number
      blocks-dropped b found = ap (map numbered_of) others-drop ∙ numbered_drop 1 l.last_number number (others l.blocks) b listed.rising (find-other ∙ found)
