-- Where no memory is found for the words, the space or the hooks, nothing is played.
use Rattle.std.proofs.Common.{◌≡◌, ◌<◌, ◌⊎◌, inl, inr, ℕ, List, [], Option, refl, arith}
use Rattle.addr_space.specs.Space.{Space, held}
use Rattle.pgs_world.proofs.SweptLemmas.{not_read}
use Rattle.pgscript_cli.specs.Program.{Plays, asked_run, the_kinds, the_shelf}

-- a space without regions holds nothing
pub none_held : (s : Space) → s.regions ≡ [] → (account : ℕ) → held s account ≡ 0
unfolding held
none_held s none account = rw none refl

-- a space of which nothing is known but that it holds nothing
abbrev the_space : Space
the_space = record { regions = []; taken = []; limit = 0 }

pub nothing_played : (words : List (List ℕ)) (left written : Option (List ℕ)) (source_faults sink_faults : ℕ)
    → Plays words (record { status = 5; call = 0; errors = 0; lines = 0 }) left left written written source_faults source_faults sink_faults sink_faults
nothing_played words left written source_faults sink_faults = record {
  whole = λ o asked _ _ h. absurd (elim h [ inl p ↦ omega (arith, p) | inr p ↦ omega (arith, p) ]);
  usage = λ h. absurd (omega (arith, h));
  usage_words = λ h. absurd (omega (arith, h));
  refused = λ _. inr (inr refl);
  refused_counts = λ _. (refl, refl, refl);
  source_fault = λ h. absurd (omega (arith, h));
  cut_off = λ o asked _ _ h. absurd (omega (arith, h));
  too_long = λ o asked _ _ h. absurd (omega (arith, h));
  sink_fault = λ h. absurd (omega (arith, h));
  unwritten = λ o asked _ _ h. absurd (omega (arith, h));
  usage_unwritten = λ _ h. absurd (omega (arith, h));
  wanted = λ o asked _ _ _ h. absurd (omega (arith, h));
  generated = λ o asked _ h. absurd (elim h [ inl p ↦ omega (arith, p) | inr p ↦ omega (arith, p) ]);
  generated_untold = λ o asked _ h. absurd (omega (arith, h));
  generated_stopped = λ o asked _ _ h. absurd (omega (arith, h));
  generated_unread = λ o asked _. (refl, refl);
  generated_call = λ o asked _ h. absurd (h refl);
  generated_statuses = λ o asked _. inr (inr (inr refl));
  swept = λ o asked _. (the_shelf, the_kinds, the_space, the_space, not_read (asked_run o) written the_space left source_faults sink_faults (none_held the_space refl));
  lawful = λ o asked _ h. absurd (omega (arith, h refl));
  generated_lawful = λ o asked _ h. absurd (omega (arith, h refl));
  made_once = λ o asked _ h. absurd (omega (arith, h refl));
  not_started = λ _ _ _. (refl, refl, refl, refl);
  source_grew = λ h. absurd (omega (arith, h));
  sink_grew = λ h. absurd (omega (arith, h));
  statuses = omega arith;
  call = λ _ h. absurd (h refl);
  complete = λ o asked _ _ _ _ _ _. inr (inr refl);
}
