use Rattle.std.proofs.Common.{arith, ◌≡◌, ◌+◌, ◌++◌, ◌∙◌, ap, length, take, length-take, length-append}
use Rattle.pgs_io.proofs.LineLemmas.{take-append-room, take-put}
use Rattle.pgs_io.proofs.lines.LineBuf.extend.Goals as goal

-- what is appended fits, and is what of the bytes fits
pub returns-clause-appended : goal.returns-clause-appended
returns-clause-appended c =
    let held = take c.self.inside.length c.self.inside.bytes in
    let front = take c.min-count.result c.args.bytes.now in
    let copied : c.copy_from_slice.new.self ≡ front = c.copy_from_slice.ensures.after in
    let full : length held ≡ c.self.inside.length = length-take c.self.inside.length c.self.inside.bytes ∙ omega arith in
    rw (← c.self.view_is)
    (take-put c.self.inside.length (c.self.inside.length + c.min-count.result) c.self.inside.bytes c.copy_from_slice.new.self _
    (length-append held c.copy_from_slice.new.self ∙ omega (arith, full, c.copy_from_slice.ensures.len, c.min-count.ensures))
    ∙ ap (λ l. held ++ l) copied
    ∙ take-append-room 512 held c.args.bytes.now c.min-count.result (omega (arith, full)) (omega (arith, full, c.min-count.ensures)))
