use Rattle.std.proofs.Common.{refl, ap, ◌∙◌, arith}
use Rattle.codec.specs.Text.{hexes}
use Rattle.codec.proofs.Lines.{put_front, put_part, fed}
use Rattle.codec.proofs.text.put_line.Goals as goal

pub returns : goal.returns
returns c =
    let line = c.args.line.now in
    let f = c.args.f in
    let kind = put_front line c.put_hex.new.digits 2 f.kind (omega (arith, c.requires)) (c.put_hex.ensures ∙ ap (hexes _) c.from.ensures) in
    let t = put_part line _ c.put_hex-2.new.digits _ 2 2 f.t kind.0 kind.1 (omega (arith, c.requires)) (c.put_hex-2.ensures ∙ ap (hexes _) c.from-2.ensures) in
    let name = put_part line _ c.put_hex-3.new.digits _ 4 4 f.name t.0 t.1 (omega (arith, c.requires)) (c.put_hex-3.ensures ∙ ap (hexes _) c.from-3.ensures) in
    let load = put_part line _ c.put_hex-4.new.digits _ 8 8 f.load name.0 name.1 (omega (arith, c.requires)) c.put_hex-4.ensures in
    fed line _ _ f c.requires load.1 load.0 refl
