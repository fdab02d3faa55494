-- What a tray means as a log.
use Rattle.std.specs.Prelude.{List, map}
use Rattle.arrayvec.specs.ArrayVec.{array_vec_len}
use Rattle.records.specs.Recs.{Rec}
use Rattle.records.specs.Rows.{row_means}
use Rattle.logs.specs.Tables.{safe_of, loose_of}
use Rattle.logs.specs.declared.tray.Tray.{Tray}

abbrev pub safe_in : Tray → List Rec
safe_in t = safe_of t.secured (array_vec_len t.rows) (map row_means t.rows.items)

abbrev pub loose_in : Tray → List Rec
loose_in t = loose_of t.secured (array_vec_len t.rows) (map row_means t.rows.items)
