use Rattle.std.proofs.Common.{refl}
use Rattle.std.specs.Fmt.{char_count, digits, padded_integral}
use lib.Utf8.{encode}
use Rattle.mc_picture.specs.Cells.{box_corner_text, run_text}
use Rattle.mc_picture.specs.Maps.{bytes_text, chunk_counts_text, counts_text, end_text, granted_beyond_text, granted_within_text, heading_text, line_text, lines_text, map_page_text, moved_text, owner_text, page_bytes_text, page_totals_text, share_text, sizes_text, start_text, sum_heading_text, sum_text}
use Rattle.mc_picture.specs.Tables.{memory_text, row_text, table_note, waste_text}
use Rattle.mc_picture.proofs.laws.worked_texts.Goals as goal

pub returns-clause-heading : goal.returns-clause-heading
unfolding heading_text page_totals_text page_bytes_text granted_within_text granted_beyond_text moved_text digits
returns-clause-heading c = refl

pub returns-clause-pages : goal.returns-clause-pages
unfolding map_page_text start_text owner_text end_text padded_integral digits char_count encode
returns-clause-pages c = refl

pub returns-clause-line : goal.returns-clause-line
unfolding line_text sizes_text counts_text share_text chunk_counts_text bytes_text padded_integral digits char_count encode
returns-clause-line c = refl

pub returns-clause-sum : goal.returns-clause-sum
unfolding sum_text sum_heading_text counts_text share_text chunk_counts_text bytes_text padded_integral digits char_count encode
returns-clause-sum c = refl

pub returns-clause-no_lines : goal.returns-clause-no_lines
unfolding lines_text
returns-clause-no_lines c = refl

pub returns-clause-memory : goal.returns-clause-memory
unfolding memory_text table_note digits
returns-clause-memory c = refl

pub returns-clause-rows : goal.returns-clause-rows
unfolding row_text waste_text padded_integral digits char_count encode
returns-clause-rows c = refl

pub returns-clause-runs : goal.returns-clause-runs
unfolding run_text box_corner_text digits
returns-clause-runs c = refl
