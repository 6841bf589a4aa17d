-- What a context stands for while another one moves.
use Rattle.context_node.proofs.Words.{◌≡◌, ℕ, map, Option, Some, None, refl, sym, ap, ◌∙◌, inl, inr, unwrap_or, Region, Space, region_at, bytes_of, part, Footprint, AreDisjoint, option_cases, Forest, Empty, Node, at, Once, Apart, apart_of, footprint, place_at, AnyCtx, Entry, Kept, IsSoundContext, chunk_of, entries, context_of, bytes_at}
use Rattle.addr_space.specs.Footprint as foot
use Rattle.context_node.proofs.Names.{at_here, at_beside}
use Rattle.std.proofs.lemmas.Bool.Decides.{nat_tests}
use Rattle.std.proofs.Common.{arith}

-- a region of a context that is apart from one that moves stays as it is
pub region_stays : (f g other : Footprint) (s t : Space) → foot.Moves f g s t → AreDisjoint f other → foot.Agrees other s → (number len : ℕ) → other.region number ≡ Some len
    → region_at t number ≡ region_at s number
region_stays f g other s t moves disjoint agrees number len owns =
    let has = agrees.regions number len owns in
    let none : f.region number ≡ None = elim (option_cases (f.region number)) [
      | inl without ↦ without
      | inr owned ↦ let clash = disjoint number owned.0 owned.1 in absurd (cc)
    ] in
    let now = (moves.outside number has.0).0 (has.1, none) in
    now.0 ∙ sym has.1

-- entries of which two functions say the same
pub entries_same : {B : Type 0} (f g : Entry → B) (u : Forest Entry) → Once u → ((c : ℕ) (e : Entry) → at c u ≡ Some e → f e ≡ g e) → map f (entries u) ≡ map g (entries u)
entries_same f g Empty o same = refl
entries_same f g (Node c e below beside) o same =
    let apart : Apart c below beside = apart_of c e below beside o in
    rw (same c e (at_here c e below beside), entries_same f g beside apart.once_beside (λ d x h. same d x (at_beside c d e x below beside o h))) refl

pub chunk_same : (s t : Space) (a b : AnyCtx) (e : Entry) → place_at b e.at ≡ place_at a e.at → bytes_at t e.at e.known ≡ bytes_at s e.at e.known → chunk_of t b e ≡ chunk_of s a e
chunk_same s t a b e places bytes = rw (places, bytes) refl

-- a context with other chunks
pub context_same : (s t : Space) (j : Kept) → map (chunk_of t j.memory) (entries j.chunks) ≡ map (chunk_of s j.memory) (entries j.chunks) → context_of t j ≡ context_of s j
context_same s t j same = grind (arith, nat_tests, j.name, j.kind, j.protected, j.memory, j.used, j.hooks)

-- a context that is apart from one that moves stands for the same
pub context_stays : (f g : Footprint) (s t : Space) (j : Kept) → foot.Moves f g s t → AreDisjoint f (footprint j.memory) → foot.Agrees (footprint j.memory) s → IsSoundContext j
    → context_of t j ≡ context_of s j
context_stays f g s t j moves disjoint agrees sound =
    context_same s t j (entries_same (chunk_of t j.memory) (chunk_of s j.memory) j.chunks sound.once (λ c e h.
    let within = agrees.sound.live_inside e.at e.size (sound.live c e h) in
    chunk_same s t j.memory j.memory e refl
    (ap (λ (r : Option Region). map (λ (byte : Option ℕ). unwrap_or byte 0) (part (bytes_of r) e.at.offset e.known))
    (region_stays f g (footprint j.memory) s t moves disjoint agrees e.at.region within.0 within.1))))
