use Rattle.std.proofs.Common.{◌<◌, length, ap, ◌∙◌, subst, arith}
use Rattle.nc_sg.specs.Lists.{SgView}
use Rattle.nc_sg.specs.declared.list.Entry.{Entry}
use Rattle.std.specs.Prelude.{List, slice_set}
use Rattle.nc_lots.proofs.LotLaws.{spot_within, entries-read, without-set}
use Rattle.nc_lots.proofs.slots.put_back.Goals as goal

pub index_mut-requires : goal.index_mut-requires
index_mut-requires c = let h = spot_within c.args.lots.now.items c.args.at.lot c.args.at.entry c.requires.there in omega (arith, h, c.args.lots.now.ok.0)

pub put_back-requires : goal.put_back-requires
put_back-requires c =
    let within = spot_within c.args.lots.now.items c.args.at.lot c.args.at.entry c.requires.there in
    record { entry = subst (λ (es : List Entry). c.args.at.entry < length es) (entries-read c.args.lots.now.items c.args.at.lot c.index_mut.result.now c.index_mut.ensures.value within) c.requires.there }

pub returns : goal.returns
returns c =
    let within = spot_within c.args.lots.now.items c.args.at.lot c.args.at.entry c.requires.there in
    let lot = c.index_mut.result.now in
    ap (λ (l : SgView). slice_set c.args.lots.now.items c.args.at.lot (record lot { list = l })) c.put_back.ensures
    ∙ without-set c.args.lots.now.items c.args.at.lot c.args.at.entry lot c.index_mut.ensures.value within
