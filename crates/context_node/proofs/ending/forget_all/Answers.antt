use Rattle.context_node.proofs.Words.{◌≡◌, true, refl, sym, ap, ◌∙◌, get, Empty, has, Entry, same}
use Rattle.context_node.proofs.Lemmas.{without_name, none_left, none_has, flat_turn, once_turn, size_turn, numbers_turn, left_turn}
use Rattle.context_node.proofs.ending.forget_all.Goals as goal

pub loop-id-smaller-in-Some-name : goal.loop-id-smaller-in-Some-name
loop-id-smaller-in-Some-name c =
    size_turn c.in-Some.id.number c.remove-entry.result c.loop-id.chunks.forest c.remove-entry.new.self.forest c.in-Some.ensures.0 c.remove-entry.ensures.value c.remove-entry.ensures.forest c.loop-id.invariant.flat c.loop-id.invariant.once

pub loop-id-smaller : goal.loop-id-smaller
loop-id-smaller c =
    size_turn c.in-Some.id.number c.remove-entry.result c.loop-id.chunks.forest c.remove-entry.new.self.forest c.in-Some.ensures.0 c.remove-entry.ensures.value c.remove-entry.ensures.forest c.loop-id.invariant.flat c.loop-id.invariant.once

pub loop-id-preserved-in-Some-name : goal.loop-id-preserved-in-Some-name
loop-id-preserved-in-Some-name c =
    let n = c.in-Some.id.number in
    let e = c.remove-entry.result in
    let t = c.loop-id.chunks.forest in
    let u = c.remove-entry.new.self.forest in
    let inv = c.loop-id.invariant in
    record {
      flat = flat_turn n e t u c.in-Some.ensures.0 c.remove-entry.ensures.value c.remove-entry.ensures.forest inv.flat inv.once;
      once = once_turn n e t u c.in-Some.ensures.0 c.remove-entry.ensures.value c.remove-entry.ensures.forest inv.flat inv.once;
      numbers = numbers_turn n e t u c.in-Some.ensures.0 c.remove-entry.ensures.value c.remove-entry.ensures.forest inv.flat inv.once c.loop-id.chunks.places c.remove-entry.new.self.places c.remove-entry.ensures.places inv.numbers;
      left = λ w.
          let drops : get same c.remove.new.self w ≡ without_name e.name (get same c.loop-id.names) w =
          c.remove.ensures.updates.0 w ∙ sym (rw c.in-Some-name.is refl) in
          left_turn n e t u c.in-Some.ensures.0 c.remove-entry.ensures.value c.remove-entry.ensures.forest inv.flat inv.once (get same c.loop-id.names) (get same c.remove.new.self) w drops ∙ inv.left w;
    }

pub loop-id-preserved : goal.loop-id-preserved
loop-id-preserved c =
    let n = c.in-Some.id.number in
    let e = c.remove-entry.result in
    let t = c.loop-id.chunks.forest in
    let u = c.remove-entry.new.self.forest in
    let inv = c.loop-id.invariant in
    record {
      flat = flat_turn n e t u c.in-Some.ensures.0 c.remove-entry.ensures.value c.remove-entry.ensures.forest inv.flat inv.once;
      once = once_turn n e t u c.in-Some.ensures.0 c.remove-entry.ensures.value c.remove-entry.ensures.forest inv.flat inv.once;
      numbers = numbers_turn n e t u c.in-Some.ensures.0 c.remove-entry.ensures.value c.remove-entry.ensures.forest inv.flat inv.once c.loop-id.chunks.places c.remove-entry.new.self.places c.remove-entry.ensures.places inv.numbers;
      left = λ w.
          let drops : get same c.loop-id.names w ≡ without_name e.name (get same c.loop-id.names) w = rw c.in_default-name.is refl in
          left_turn n e t u c.in-Some.ensures.0 c.remove-entry.ensures.value c.remove-entry.ensures.forest inv.flat inv.once (get same c.loop-id.names) (get same c.loop-id.names) w drops ∙ inv.left w;
    }

pub returns-clause-nowhere : goal.returns-clause-nowhere
returns-clause-nowhere c =
    none_has c.loop-id.chunks.places (λ n h.
    let empty : c.loop-id.chunks.forest ≡ Empty = none_left c.loop-id.chunks.forest c.in_default.ensures in
    let there : has {A = Entry} n Empty ≡ true = ap (has n) (sym empty) ∙ c.loop-id.invariant.numbers n h in
    absurd (cc))
