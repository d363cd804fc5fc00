use Rattle.web_lines.proofs.responses.response.Goals as goal

pub returns-in-Missing : goal.returns-in-Missing
returns-in-Missing c = rw c.in-Missing.is c.plain-in-Missing.ensures

pub returns-in-WrongMethod : goal.returns-in-WrongMethod
returns-in-WrongMethod c = rw c.in-WrongMethod.is c.plain-in-WrongMethod.ensures

pub returns-in-NeedsUpgrade : goal.returns-in-NeedsUpgrade
returns-in-NeedsUpgrade c = rw c.in-NeedsUpgrade.is c.plain-in-NeedsUpgrade.ensures

pub returns-in-TooLong : goal.returns-in-TooLong
returns-in-TooLong c = rw c.in-TooLong.is c.plain-in-TooLong.ensures
