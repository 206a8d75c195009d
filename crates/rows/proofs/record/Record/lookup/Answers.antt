-- `lookup` meets its contract: a record that obeys its rule has no more children than its kind may have.
use Rattle.records.proofs.Owns.{body_fits}
use Rattle.rows.proofs.record.Record.lookup.Goals as goal

pub lookup_child-requires : goal.lookup_child-requires
lookup_child-requires c =
    let fits = c.args.self.now.fits in
    ((fits.low, fits.high), (fits.long, (body_fits fits).few))
