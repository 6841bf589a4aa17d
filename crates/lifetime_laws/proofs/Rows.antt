-- The transcripts of short scripts are lawful.
use Rattle.std.proofs.Common.{◌≡◌, true, refl}
use Rattle.owner_kinds.specs.KindTable.{row_of}
use Rattle.lifetime_laws.specs.Laws.{is_lawful}
use Rattle.lifetime_laws.specs.Made.{makes_once}
use Rattle.lifetime_laws.proofs.Written.{by, kinds}
use Rattle.lifetime_laws.proofs.Transcripts.{pinned, sorted, merged, stacked, hooked, planned, nested, two}

pub pinned_is_lawful : is_lawful kinds 1 (by 1 pinned) ≡ true
unfolding row_of
pinned_is_lawful = refl

pub pinned_makes_once : makes_once 1 (by 1 pinned) ≡ true
pinned_makes_once = refl

pub sorted_is_lawful : is_lawful kinds 1 (by 1 sorted) ≡ true
unfolding row_of
sorted_is_lawful = refl

pub sorted_makes_once : makes_once 1 (by 1 sorted) ≡ true
sorted_makes_once = refl

pub merged_is_lawful : is_lawful kinds 1 (by 1 merged) ≡ true
unfolding row_of
merged_is_lawful = refl

pub merged_makes_once : makes_once 1 (by 1 merged) ≡ true
merged_makes_once = refl

pub stacked_is_lawful : is_lawful kinds 1 (by 1 stacked) ≡ true
unfolding row_of
stacked_is_lawful = refl

pub stacked_makes_once : makes_once 1 (by 1 stacked) ≡ true
stacked_makes_once = refl

pub hooked_is_lawful : is_lawful kinds 1 (by 1 hooked) ≡ true
unfolding row_of
hooked_is_lawful = refl

pub hooked_makes_once : makes_once 1 (by 1 hooked) ≡ true
hooked_makes_once = refl

pub planned_is_lawful : is_lawful kinds 1 (by 1 planned) ≡ true
unfolding row_of
planned_is_lawful = refl

pub planned_makes_once : makes_once 1 (by 1 planned) ≡ true
planned_makes_once = refl

pub nested_is_lawful : is_lawful kinds 1 (by 1 nested) ≡ true
unfolding row_of
nested_is_lawful = refl

pub nested_makes_once : makes_once 1 (by 1 nested) ≡ true
nested_makes_once = refl

pub two_is_lawful : is_lawful kinds 2 two ≡ true
unfolding row_of
two_is_lawful = refl

pub two_makes_once : makes_once 2 two ≡ true
two_makes_once = refl
