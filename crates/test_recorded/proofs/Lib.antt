mod Knowledge
