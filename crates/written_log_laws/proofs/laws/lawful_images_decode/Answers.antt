use Rattle.written_log_laws.proofs.LawfulLaws.{lawful_images_decode_to_fronts, whole_lawful_images_decode}
use Rattle.written_log_laws.proofs.laws.lawful_images_decode.Goals as goal

pub returns-clause-fronts : goal.returns-clause-fronts
returns-clause-fronts c = lawful_images_decode_to_fronts

pub returns-clause-whole : goal.returns-clause-whole
returns-clause-whole c = whole_lawful_images_decode
