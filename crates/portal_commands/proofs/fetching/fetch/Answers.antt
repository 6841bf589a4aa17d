use Rattle.portal_commands.proofs.Base.{◌≡◌, ◌+◌, ◌*◌, [], List, refl, sym, ap, arith}
use Rattle.portal_commands.proofs.Words.{What, named_nowhere, portal_becomes, has_failed, Element, OpenPortal, depth, Scene, now, less_room, room_left, handed}
use Rattle.portal_commands.proofs.Lemmas.{alone_done, fetching_begins, does_begin, fetch_done, fetch_of_failed, fetch_of_none, fetch_refused, not_failed, scan_of_it, at_becomes, at_there}
use Rattle.portal_commands.proofs.fetching.fetch.Goals as goal

pub unreachable-requires : goal.unreachable-requires
unreachable-requires g c = absurd (at_there c.args.name c.in-Some.place c.args.store.now.portals (sym c.in-Some.ensures) (sym (c.in_default-portal_at.ensures.portal c.args.name (sym c.in-Some.ensures))))

pub begin_fetch-requires : goal.begin_fetch-requires
begin_fetch-requires g c = record { there = (c.args.name, sym c.in-Some.ensures) }

pub returns-in_default : goal.returns-in_default
returns-in_default g c = record { performed = fetch_of_none c.args.name c.args.count (now c.args.store.now c.args.shared.now) _ c.requires.between.keeps (named_nowhere c.args.name c.args.store.now.portals (sym c.in_default.ensures)) (g.met.E.Emit.emits_none c.args.out.now) }

pub returns-in-Failed : goal.returns-in-Failed
returns-in-Failed g c = record { performed = fetch_of_failed c.args.name c.args.count (now c.args.store.now c.args.shared.now) _ c.requires.between.keeps c.in-Some-portal_at.portal.now (sym (c.in-Some-portal_at.ensures.portal c.args.name (sym c.in-Some.ensures))) (ap has_failed c.in-Failed.is) (g.met.E.Emit.emits_none c.args.out.now) }

pub fetch_rows-requires : goal.fetch_rows-requires
fetch_rows-requires g c = record {
  fetching = (c.in-Some-portal_at.portal.now.scan, (fetching_begins c.args.name c.in-Some-portal_at.portal.now.scan (now c.args.store.now c.args.shared.now) c.begin_fetch.new.store c.requires.between c.requires.active (scan_of_it c.args.name c.args.count (now c.args.store.now c.args.shared.now) (λ (events : List What). events ≡ []) c.requires.between.keeps c.in-Some-portal_at.portal.now (sym (c.in-Some-portal_at.ensures.portal c.args.name (sym c.in-Some.ensures)))) (c.begin_fetch.ensures.acted c.args.name (sym c.in-Some.ensures) c.args.shared.now.space.now c.args.shared.now.shelf.now c.args.shared.now.commons.now) c.begin_fetch.ensures.alone));
  place = at_becomes c.args.name c.in-Some.place (λ (s : Scene) (p : OpenPortal). record p { active = depth s.session }) (now c.args.store.now c.args.shared.now) c.begin_fetch.new.store (λ s p. refl)
      (c.begin_fetch.ensures.acted c.args.name (sym c.in-Some.ensures) c.args.shared.now.space.now c.args.shared.now.shelf.now c.args.shared.now.commons.now) (sym c.in-Some.ensures);
  room = room_left 0 (3 * c.args.count) (now c.args.store.now c.args.shared.now) _ (less_room (0 + 3 * c.args.count) 4194304 (now c.args.store.now c.args.shared.now) (omega (arith, c.requires.range.1)) c.requires.room)
      (let begun = (alone_done (Element.FetchBegins c.args.name) (λ scene. portal_becomes c.args.name (λ p. record p { active = depth scene.session }) scene) (now c.args.store.now c.args.shared.now) c.begin_fetch.new.store (does_begin c.args.name) (λ s. refl) (λ s. refl) (c.begin_fetch.ensures.acted c.args.name (sym c.in-Some.ensures) c.args.shared.now.space.now c.args.shared.now.shelf.now c.args.shared.now.commons.now) c.begin_fetch.ensures.alone c.requires.between.keeps) in begun.grows);
}

pub returns-in_err-rows : goal.returns-in_err-rows
returns-in_err-rows g c = record {
  performed =
      handed _ _ c.from_residual.ensures.1
      (fetch_refused c.args.name c.args.count (now c.args.store.now c.args.shared.now) _ c.requires.between.keeps c.in-Some-portal_at.portal.now (sym (c.in-Some-portal_at.ensures.portal c.args.name (sym c.in-Some.ensures))) (not_failed c.in-Some-portal_at.portal.now.state c.in_default-state.not-Failed) c.requires.range.1 _ _
      (alone_done (Element.FetchBegins c.args.name) (λ scene. portal_becomes c.args.name (λ p. record p { active = depth scene.session }) scene) (now c.args.store.now c.args.shared.now) c.begin_fetch.new.store (does_begin c.args.name) (λ s. refl) (λ s. refl) (c.begin_fetch.ensures.acted c.args.name (sym c.in-Some.ensures) c.args.shared.now.space.now c.args.shared.now.shelf.now c.args.shared.now.commons.now) c.begin_fetch.ensures.alone c.requires.between.keeps)
      _ (c.in_err-rows.ensures.refused c.in-Some-portal_at.portal.now.scan (fetching_begins c.args.name c.in-Some-portal_at.portal.now.scan (now c.args.store.now c.args.shared.now) c.begin_fetch.new.store c.requires.between c.requires.active (scan_of_it c.args.name c.args.count (now c.args.store.now c.args.shared.now) (λ (events : List What). events ≡ []) c.requires.between.keeps c.in-Some-portal_at.portal.now (sym (c.in-Some-portal_at.ensures.portal c.args.name (sym c.in-Some.ensures)))) (c.begin_fetch.ensures.acted c.args.name (sym c.in-Some.ensures) c.args.shared.now.space.now c.args.shared.now.shelf.now c.args.shared.now.commons.now) c.begin_fetch.ensures.alone)));
}

pub returns : goal.returns
returns g c = record {
  performed =
      let f = c.in_ok-rows.ensures.fetched c.in-Some-portal_at.portal.now.scan (fetching_begins c.args.name c.in-Some-portal_at.portal.now.scan (now c.args.store.now c.args.shared.now) c.begin_fetch.new.store c.requires.between c.requires.active (scan_of_it c.args.name c.args.count (now c.args.store.now c.args.shared.now) (λ (events : List What). events ≡ []) c.requires.between.keeps c.in-Some-portal_at.portal.now (sym (c.in-Some-portal_at.ensures.portal c.args.name (sym c.in-Some.ensures)))) (c.begin_fetch.ensures.acted c.args.name (sym c.in-Some.ensures) c.args.shared.now.space.now c.args.shared.now.shelf.now c.args.shared.now.commons.now) c.begin_fetch.ensures.alone) in
      fetch_done c.args.name c.args.count (now c.args.store.now c.args.shared.now) _ c.requires.between.keeps c.in-Some-portal_at.portal.now (sym (c.in-Some-portal_at.ensures.portal c.args.name (sym c.in-Some.ensures))) (not_failed c.in-Some-portal_at.portal.now.state c.in_default-state.not-Failed) c.requires.range.1 _ _
      (alone_done (Element.FetchBegins c.args.name) (λ scene. portal_becomes c.args.name (λ p. record p { active = depth scene.session }) scene) (now c.args.store.now c.args.shared.now) c.begin_fetch.new.store (does_begin c.args.name) (λ s. refl) (λ s. refl) (c.begin_fetch.ensures.acted c.args.name (sym c.in-Some.ensures) c.args.shared.now.space.now c.args.shared.now.shelf.now c.args.shared.now.commons.now) c.begin_fetch.ensures.alone c.requires.between.keeps)
      c.in_ok-rows.rows (λ (events : List What). g.E.Emit.emits c.args.out.now events c.fetch_rows.new.out) _ f.0 f.1 f.2 (let x = f.2 in x.keeps) c.emit.ensures.emitted (λ us vs x y. g.met.E.Emit.emits_more _ _ _ _ _ _ x y refl);
}
