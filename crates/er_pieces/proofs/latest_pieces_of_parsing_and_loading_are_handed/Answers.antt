use Rattle.er_pieces.proofs.HandsParse.{hands_parse}
use Rattle.er_pieces.proofs.HandsScript.{hands_script}
use Rattle.er_pieces.proofs.HandsLoad.{hands_load}
use Rattle.er_pieces.proofs.latest_pieces_of_parsing_and_loading_are_handed.Goals as goal

pub returns-clause-parsing : goal.returns-clause-parsing
returns-clause-parsing c = hands_parse

pub returns-clause-scripts : goal.returns-clause-scripts
returns-clause-scripts c = hands_script

pub returns-clause-loads : goal.returns-clause-loads
returns-clause-loads c = hands_load
